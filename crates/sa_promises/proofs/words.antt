-- Reads: the fold reads what the plain words say: owners, aims, demands, lines, fetches, and what is untold.
-- Moments: it does so at each moment of a legal trace.
-- Untold: what is untold stands untold.
-- Once: a legal trace tells at most once.
-- Fresh: the number of each upcall is in use by nobody.
-- Ends: the ends of a trace's events are the ends of its history's events.
-- Timely: a legal trace tells in time, and covers shares.
-- Ios: I/Os are numbered from 0 in the order of their block and fetch records.
pub mod Reads
pub mod Moments
pub mod Untold
pub mod Once
pub mod Fresh
pub mod Ends
pub mod Timely
pub mod Ios
