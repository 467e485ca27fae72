-- I/Os under way.
use Rattle.std.specs.Prelude.{ℕ, ◌==◌, nat_lt, nat_le, Bool, false, ◌&&◌, ◌||◌, if◌then◌else◌, List, [], ◌∷◌, find, Option, Some, None}
use Rattle.sa_base.specs.declared.number.IoNo.{IoNo}
use Rattle.sa_devices.specs.declared.kind.IoKind.{IoKind}
use Rattle.sa_devices.specs.declared.kind.IoKind.TheVariants.{Plain, Page, Upcall}

-- an I/O under way: its number, the event from which on it is due, and what it is for
pub record Io : Type 0 where
  pub number : ℕ
  pub ends : ℕ
  pub kind : IoKind

-- a comes before b: by its smaller end, then by its smaller number
abbrev pub is_sooner : Io → Io → Bool
is_sooner a b = nat_lt a.ends b.ends || (a.ends == b.ends && nat_lt a.number b.number)

-- the one that comes first, if there is another
abbrev pub sooner_of : Io → Option Io → Io
sooner_of a None = a
sooner_of a (Some b) = if is_sooner b a then b else a

-- of those whose end is at most the event the one with the least end, and of these the one with the least number
abbrev pub due_of : ℕ → List Io → Option Io
due_of event [] = None
due_of event (io ∷ ios) = if nat_le io.ends event then Some (sooner_of io (due_of event ios)) else due_of event ios

-- the I/O has this number
abbrev pub is_number : ℕ → Io → Bool
is_number n io = io.number == n

-- the I/O of a number, if it is under way
abbrev pub io_at : ℕ → List Io → Option Io
io_at n ios = find (is_number n) ios

-- those that are left when the I/O of a number is over
abbrev pub without : ℕ → List Io → List Io
without n [] = []
without n (io ∷ ios) = if is_number n io then ios else io ∷ without n ios

-- the number of an I/O
abbrev pub io_no : Io → IoNo
io_no io = record { 0 = io.number }

-- the I/O fetches the upcall page of a space
abbrev pub is_fetch_of : ℕ → IoKind → Bool
is_fetch_of s (Plain t a) = false
is_fetch_of s (Page t a k) = false
is_fetch_of s (Upcall t) = t.0 == s

abbrev pub fetches : ℕ → Io → Bool
fetches s io = is_fetch_of s io.kind

-- how many fetches of the upcall page of a space an I/O is
abbrev pub one_fetch : ℕ → IoKind → ℕ
one_fetch s kind = if is_fetch_of s kind then 1 else 0
