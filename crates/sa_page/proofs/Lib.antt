mod AdvanceLemmas
mod ShownLemmas
mod PageLemmas
mod SaidLemmas
mod CountLemmas
mod EndedLemmas
mod FailingLemmas
