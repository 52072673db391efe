pub mod DecodingLemmas
pub mod EncodingLemmas
pub mod FirstLemmas
pub mod FitsLemmas
pub mod IndexLemmas
pub mod WidthLemmas
