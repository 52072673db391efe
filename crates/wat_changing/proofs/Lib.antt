pub mod MeetingLemmas
pub mod ChangedLemmas
