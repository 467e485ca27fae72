-- The kinds of records, and how each is written.
use Rattle.std.specs.Prelude.{◌≢◌, ℕ, List, [], ◌∷◌, codes}
use Rattle.sa_trace.specs.declared.field.Field.{Field}
use Rattle.sa_trace.specs.declared.field.Field.TheVariants.{Space, OptionalSpace, Thread, OptionalThread, Processor, Activation, Io, Place, Value, Demand}
use Rattle.sa_trace.specs.declared.kind.Kind.{Kind}
use Rattle.sa_trace.specs.declared.kind.Kind.TheVariants.{Ins, Out, Run, Stop, Block, Unblock, Cont, Back, Ready, Take, Free, Up, ToldAdd, ToldPreempted, ToldBlocked, ToldUnblocked, Move, Want, Aim, Line, Fetch, Fetched, GiveBack, Idle, Spin, Tick}

-- a kind's number, its word, and what its fields are
pub record Written : Type 0 where
  pub number : ℕ
  pub word : List ℕ
  pub fields : List Field

abbrev pub written : ℕ → List ℕ → List Field → Written
written n w fs = record { number = n; word = w; fields = fs }

-- how the records of each kind are written; the four notices have one number
abbrev pub form_of : Kind → Written
form_of Ins = written 1 (codes "ins") (Space ∷ Thread ∷ Place ∷ [])
form_of Out = written 2 (codes "out") (Space ∷ Thread ∷ Value ∷ [])
form_of Run = written 3 (codes "run") (Space ∷ Thread ∷ [])
form_of Stop = written 4 (codes "stop") (Space ∷ OptionalThread ∷ Activation ∷ [])
form_of Block = written 5 (codes "block") (Space ∷ OptionalThread ∷ Activation ∷ Io ∷ [])
form_of Unblock = written 6 (codes "unblock") (Space ∷ OptionalThread ∷ Activation ∷ [])
form_of Cont = written 7 (codes "cont") (Space ∷ OptionalThread ∷ [])
form_of Back = written 8 (codes "back") (Space ∷ OptionalThread ∷ [])
form_of Ready = written 9 (codes "ready") (Space ∷ Thread ∷ [])
form_of Take = written 10 (codes "take") (Space ∷ Processor ∷ OptionalThread ∷ [])
form_of Free = written 11 (codes "free") (Space ∷ Processor ∷ OptionalThread ∷ [])
form_of Up = written 12 (codes "up") (Space ∷ Activation ∷ [])
form_of ToldAdd = written 13 (codes "told add") (Processor ∷ [])
form_of ToldPreempted = written 13 (codes "told preempted") (Activation ∷ [])
form_of ToldBlocked = written 13 (codes "told blocked") (Activation ∷ [])
form_of ToldUnblocked = written 13 (codes "told unblocked") (Activation ∷ [])
form_of Move = written 14 (codes "move") (OptionalSpace ∷ OptionalSpace ∷ [])
form_of Want = written 15 (codes "want") (Space ∷ Demand ∷ [])
form_of Aim = written 16 (codes "aim") (Processor ∷ OptionalSpace ∷ [])
form_of Line = written 17 (codes "line") (Processor ∷ [])
form_of Fetch = written 18 (codes "fetch") (Space ∷ [])
form_of Fetched = written 19 (codes "fetched") (Space ∷ [])
form_of GiveBack = written 20 (codes "giveback") (Activation ∷ [])
form_of Idle = written 21 (codes "idle") []
form_of Spin = written 22 (codes "spin") (Processor ∷ [])
form_of Tick = written 23 (codes "tick") []

-- no kind has this word
abbrev pub IsNoWord : List ℕ → Type 0
IsNoWord word = (kind : Kind) → (form_of kind).word ≢ word
