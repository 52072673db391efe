pub mod AggregateLemmas
pub mod EvaluationLemmas
