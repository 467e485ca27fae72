-- Needs: what is needed of a user level's rules, beside the kernel's. Packages: the rules of either package, by its name.
-- Words: what is read off a flat trace, in plain words. Headline: what a legal run promises its reader, in these words.
-- Lives: where the life of an activation number stands. Consequences: what follows at each moment.
-- Along, Moments, Marks, Loads, Holdings, Ios, Pages, Urged, Steps: the other readings in plain words; Reads: that the fold reads them.
-- Closings: what is due at a closing. Demands: what a space announced. Outranking: of thread priorities, that none is outranked.
-- Examples: the run of the smallest workload, and for each rule a history that breaks it first. RankedExamples: histories that break
-- what is thread priorities' own in a rule.
pub mod Needs
pub mod Words
pub mod Headline
pub mod Lives
pub mod Consequences
pub mod Along
pub mod Moments
pub mod Marks
pub mod Loads
pub mod Holdings
pub mod Ios
pub mod Pages
pub mod Urged
pub mod Steps
pub mod Reads
pub mod Closings
pub mod Demands
pub mod Outranking
pub mod Examples
pub mod RankedExamples
