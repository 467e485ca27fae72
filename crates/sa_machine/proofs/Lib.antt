pub mod EventLemmas
pub mod EnterLemmas
pub mod StopLemmas
pub mod HintLemmas
pub mod CallLemmas
pub mod EntryLemmas
pub mod CountLemmas
