mod Counting
mod Blanking
mod Answering
mod Totals
mod PlanLaws
mod EpochLaws
mod Halting
