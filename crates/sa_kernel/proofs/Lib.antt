-- The lemmas of the kernel's code, file by file.
--
-- Calls: What a call leaves to the next one: its room, and the lengths of the lists.
-- FreshActivations: Calls that may take a fresh activation.
-- GivenBack: Taken activations that are given back, one by one.
-- Kept: What the kernel keeps.
-- Lawful: By what the calls do, a history goes on.
-- Least: The least number that passes a test, looked for from 0 on.
-- Lows: What the spaces see of low lines, processor by processor.
mod Calls
mod FreshActivations
mod GivenBack
mod Kept
mod Lawful
mod Least
mod Lows
