-- Steps that may be refused: what comes out, or the first fault.
use Rattle.std.specs.Prelude.{◌≡◌, List, [], ◌∷◌, Result, Ok, Err}
use Rattle.toga_diagnostic.specs.declared.cause.Fault.{Fault}
use Rattle.toga_draft.specs.declared.unread.Unread.{Unread}
use Rattle.toga_draft.specs.declared.unread.Unread.TheVariants as unread

-- what follows, where there is no fault
infixl 10 ◌>>=◌
abbrev pub ◌>>=◌ : {A B : Type 0} → Result A Fault → (A → Result B Fault) → Result B Fault
(Ok a) >>= next = next a
(Err fault) >>= next = Err fault

-- steps for each item, one after another
abbrev pub in_turn : {A B : Type 0} → (A → B → Result B Fault) → List A → B → Result B Fault
in_turn step [] b = Ok b
in_turn step (x ∷ xs) b = step x b >>= in_turn step xs

-- a call that found no more memory says nothing; one that was refused tells the fault
abbrev pub Fails : {A : Type 0} → Unread → Result A Fault → Type 0
Fails (unread.Wrong fault) read = read ≡ Err fault
Fails unread.OutOfMemory read = Unit {0}

-- what a call answered, seen so, is what is read
abbrev pub Gives : {X A : Type 0} → (X → A) → Result X Unread → Result A Fault → Type 0
Gives view (Ok x) read = read ≡ Ok (view x)
Gives view (Err e) read = Fails e read

-- what a call left is what is read
abbrev pub Leaves : {X A : Type 0} → A → Result X Unread → Result A Fault → Type 0
Leaves new (Ok x) read = read ≡ Ok new
Leaves new (Err e) read = Fails e read
