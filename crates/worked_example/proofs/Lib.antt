mod ExampleRows
mod WorkedExample
mod Several
