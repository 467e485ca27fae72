pub mod IosLemmas
pub mod KeptLemmas
pub mod LawLemmas
pub mod SoundLemmas
pub mod Copying
pub mod FetchLemmas
