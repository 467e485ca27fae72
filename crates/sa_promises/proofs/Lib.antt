-- lives: where each activation number stands, and with it who runs and who has a list locked.
-- words: the headline's readings in plain words: what is untold, told once and in time; fresh numbers; the numbers of I/Os.
-- read: the other readings in plain words, record by record and event by event.
-- closing: what a closing would add after an event.
-- covers: demands cover loads.
-- ranked: no ready thread outranks a running one.
-- packages: either package meets what is needed of a user level.
--
-- Calm: what holds at the moments of a run of one space where nothing is untold.
-- Plain: what the kernel's rules ask of a step of one record in a calm moment.
-- Right: runs that are right, and the event that breaks a rule first. Unlocked: who has which lock where few lives are.
-- Seen, OwnRules, Steps: an event of one record by either package's rules. RankedSteps: what is thread priorities' own.
-- Smallest, Broken, Forking: the smallest run is legal, and for each rule a history breaks it first; list order is broken in a run
-- that forks two threads.
-- Urging, Racing: thread priorities' own rules, on one processor and on two.
pub mod lives
pub mod words
pub mod read
pub mod closing
pub mod covers
pub mod ranked
pub mod packages
pub mod Calm
pub mod Plain
pub mod Right
pub mod Unlocked
pub mod Seen
pub mod OwnRules
pub mod Steps
pub mod RankedSteps
pub mod Smallest
pub mod Broken
pub mod Forking
pub mod Urging
pub mod Racing
