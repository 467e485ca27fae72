-- Ends: How runs end, however many events they have had, and within a budget.
-- Turns: The runs of a workload as ways: how they begin, go on, and what each machine of them keeps.
-- Schedules: Turns that lead to a machine can be made anew, whichever numbers are handed out, and lead to machines that end alike.
-- Systems: The machines of the runs of a workload are a system that can be searched.
-- Searched: What a turn that is tried adds to a search.
pub mod Ends
pub mod Turns
pub mod Schedules
pub mod Systems
pub mod Searched
