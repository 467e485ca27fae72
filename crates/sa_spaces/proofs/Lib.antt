pub mod EvictionLemmas
