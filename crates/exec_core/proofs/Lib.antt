pub mod Holding
pub mod ChildLemmas
mod ExecutionLemmas
mod PrepareLemmas
mod DivideLemmas
mod RefusalLemmas
mod SettleLemmas
mod TriedLemmas
mod PlanLemmas
mod ChangeLemmas
mod TurnLemmas
mod PlannedLemmas
mod GoingLemmas
mod SortLemmas
mod EndingLemmas
mod CountLemmas
mod OrderLemmas
mod PickLemmas
mod StepLemmas
mod TurnedLemmas
