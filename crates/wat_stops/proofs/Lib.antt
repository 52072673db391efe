pub mod CommitsLemmas
pub mod MomentsLemmas
