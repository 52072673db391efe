pub mod ChoiceLemmas
pub mod EachLemmas
pub mod OutsideLemmas
pub mod PlanLemmas
pub mod RankLemmas
pub mod SourceLemmas
