pub mod BlockSteps
pub mod FunctionCodes
