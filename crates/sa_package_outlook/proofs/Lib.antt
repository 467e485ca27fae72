-- The laws of outlooks, with FastThreads and with thread priorities filled in.
--
-- FastThreads: FastThreads looks at no number of an activation or an event, and at an idle count no further than the patience.
-- Priorities: The package with thread priorities looks at no number either, since FastThreads does not.
pub mod FastThreads
pub mod Priorities
