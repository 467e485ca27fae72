-- What a user level does with replies, and what they leave as it is.
use Rattle.std.specs.Prelude.{◌≡◌, ℕ, Bool}
use Rattle.sa_base.specs.declared.context.Seen.{Seen}
use Rattle.sa_abstract.specs.Setting.{Setting}
use Rattle.sa_abstract.specs.Calls.{Calls, Contexts}
use Rattle.sa_abstract.specs.Keeps.{Standing}

-- the value after a reply was put, and whether the next step of a context can do it
pub record Replies (U C R : Type 0) : Type 0 where
  pub put : U → R → U
  pub can : U → Seen → C → R → Bool

-- What holds of a value holds of one that is alike; what is put leaves it alike; and no page decides whether a reply can be
-- done.
pub record KeepsReplies {U C R : Type 0} (calls : Calls U C) (stands : Standing U C) (replies : Replies U C R) (alike : U → U → Type 0) : Type 0 where
  pub puts : (u : U) (reply : R) → alike u (replies.put u reply)
  pub stands_alike : (s : Setting) (e : ℕ) (u v : U) (cs : Contexts C) → alike u v → stands s e u cs → stands s e v cs
  pub tallies : (u v : U) → alike u v → calls.tally v ≡ calls.tally u
  pub pages : (u : U) (seen : Seen) (c : C) (reply : R) (pages : ℕ) → replies.can u (record seen { pages = pages }) c reply ≡ replies.can u seen c reply
