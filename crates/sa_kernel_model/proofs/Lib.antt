-- The proofs of the kernel's machine, file by file.
--
-- parts: what each part of a call does to the lists and cells of a state.
--   Sizes: What keeps the lengths of a kernel's lists keeps what is said of them.
--   Placed: Who owns a processor, where it is aimed, and what runs there, as cells change.
--   Running: What runs and what was taken, as cells and numbers change.
--   Closings: The closing, space by space.
--   Seen: The bits of a test, and what a quiet kernel has not.
--   Owed: What is owed to the trace, part by part.
--
-- sound: what always holds, part by part, and of whole calls.
--   Formed: What an entry leaves is formed.
--   Claims: The contexts that are held, and the claims on them.
--   Held: No context is lost, and an upcall tells its own space, entry by entry.
--   Prompt: After the closing of an event no notice waits without cause.
--   Sound: What always holds, kept by each call.
pub mod parts
pub mod sound
