-- What a user level owes, so that outlooks decide: it looks at no number of an activation or an event, and contexts that are plainly
-- the same do the same. `plain def c` is what matters of a context c of a space that is defined so; `IsMade def u` says that the
-- value u was made for such a space.
use Rattle.std.specs.Prelude.{◌≡◌, ℕ, Option, Some}
use Rattle.sa_base.specs.declared.context.Seen.{Seen}
use Rattle.sa_base.specs.declared.context.Stopped.{Stopped}
use Rattle.sa_base.specs.declared.record.Note.{Note}
use Rattle.sa_spaces.specs.Space.{SpaceView}
use Rattle.sa_abstract.specs.Setting.{Setting}
use Rattle.sa_abstract.specs.Calls.{Calls, Stepped}
use Rattle.sa_outlook.specs.Nameless.{nameless_note}

-- what is seen, at another event
abbrev pub at_event : ℕ → Seen → Seen
at_event e seen = record seen { event = e }

module _ {C D : Type 0} (plain : Option SpaceView → C → D) where
  -- two notices, each with the context that comes with it, are plainly the same
  abbrev pub SameNote : Option SpaceView → Note → Option (Stopped C) → Note → Option (Stopped C) → Type 0
  SameNote def note held other i =
      nameless_note (λ (s : ℕ) (c : C). plain def c) 0 (λ (n : ℕ). held) note ≡ nameless_note (λ (s : ℕ) (c : C). plain def c) 0 (λ (n : ℕ). i) other

module _ {U C D : Type 0} (plain : Option SpaceView → C → D) (IsMade : Option SpaceView → U → Type 0) where
  -- two outcomes of a call: the same value, made for the space, and contexts that are plainly the same
  pub record SamePair (def : Option SpaceView) (x y : U × C) : Type 0 where
    pub user : x.0 ≡ y.0
    pub ctx : plain def x.1 ≡ plain def y.1
    pub made : IsMade def x.0

  -- two outcomes of a step: so, the same records, and the same answer to the kernel
  pub record SameStep (def : Option SpaceView) (x y : Stepped U C) : Type 0 where
    pub user : x.user ≡ y.user
    pub ctx : plain def x.ctx ≡ plain def y.ctx
    pub says : x.says ≡ y.says
    pub answer : x.answer ≡ y.answer
    pub made : IsMade def x.user

-- each call of a user level, at two events and with two contexts that are plainly the same
pub record IgnoresNumbers {U C D : Type 0} (f : Calls U C) (plain : Option SpaceView → C → D) (IsMade : Option SpaceView → U → Type 0) : Type 0 where
  pub started : (s : Setting) → IsMade (Some s.def) (f.started s)
  pub begun : (def : Option SpaceView) (u : U) (seen : Seen) (e : ℕ) → IsMade def u → SamePair plain IsMade def (f.begun u seen) (f.begun u (at_event e seen))
  pub told : (def : Option SpaceView) (u : U) (c d : C) (note other : Note) (held i : Option (Stopped C)) → IsMade def u → plain def c ≡ plain def d
      → SameNote plain def note held other i → SamePair plain IsMade def (f.told u c note held) (f.told u d other i)
  pub answered : (def : Option SpaceView) (u : U) (seen : Seen) (e : ℕ) (c d : C) → IsMade def u → plain def c ≡ plain def d
      → SamePair plain IsMade def (f.answered u seen c) (f.answered u (at_event e seen) d)
  pub stepped : (def : Option SpaceView) (u : U) (seen : Seen) (e : ℕ) (c d : C) → IsMade def u → plain def c ≡ plain def d
      → SameStep plain IsMade def (f.stepped u seen c) (f.stepped u (at_event e seen) d)
  pub thread : (def : Option SpaceView) (u : U) (c d : C) → IsMade def u → plain def c ≡ plain def d → f.thread u c ≡ f.thread u d
  pub idle : (def : Option SpaceView) (u : U) (c d : C) → IsMade def u → plain def c ≡ plain def d → f.idle u c ≡ f.idle u d
  pub owes : (def : Option SpaceView) (u : U) (c d : C) → IsMade def u → plain def c ≡ plain def d → f.owes u c ≡ f.owes u d
