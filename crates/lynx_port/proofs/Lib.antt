pub mod WriteLemmas
pub mod DeskLemmas
pub mod TalkLemmas
pub mod StopLemmas
pub mod TogetherLemmas
pub mod CutLemmas
pub mod GoingLemmas
