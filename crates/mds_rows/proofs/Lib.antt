mod PlanLemmas
mod RowLemmas
