-- What comes of words: from clap's matches and errors to what is said.
use Rattle.std.proofs.Common.{◌≡◌, inl, inr, true, List, [], Result, Ok, Err, ap, sym, subst, ◌∙◌}
use Rattle.clap.specs.Simple.{App, HasMatchesOf, is_simple, subcommand_of, subcommand_rows_of}
use Rattle.clap.specs.Faults.{fault_of, is_simple_and_free}
use Rattle.clap.specs.Kinds.{HasKind, IsAmong}
use Rattle.clap.specs.Values.{kind_of}
use Rattle.clap.specs.Walk.{Text}
use Rattle.clap.specs.declared.error.Error.{Error}
use Rattle.clap.specs.declared.parser.matches.ArgMatches.{ArgMatches}
use Rattle.toga_words.specs.Program.{program}
use Rattle.toga_words.specs.Asked.{Asked, Objection, asked}
use Rattle.toga_words.specs.Said.{AsksFor, ComesOf, IsAnswered, IsSaid, IsTold}
use Rattle.toga_words.specs.declared.read.Said.{Said}
use Rattle.toga_words.specs.declared.read.Said.TheVariants as said
use Rattle.toga_words.proofs.Simple.{program_is_simple, program_is_free}

-- clap took the words of the program
pub record IsTaken (a : App) (words : List Text) (m : ArgMatches) : Type 0 where
  pub is : a ≡ program
  pub has : HasMatchesOf a words m
  pub fault : is_simple_and_free a ≡ true → fault_of a words ≡ []

found_in : (a : App) (words : List Text) (m : ArgMatches) → IsTaken a words m → subcommand_rows_of m ≡ subcommand_of program words
found_in a words m t = (t.has (ap is_simple t.is ∙ program_is_simple)).1 ∙ ap (λ (b : App). subcommand_of b words) t.is

no_fault : (a : App) (words : List Text) (m : ArgMatches) → IsTaken a words m → fault_of program words ≡ []
no_fault a words m t = ap (λ (b : App). fault_of b words) (sym t.is) ∙ t.fault (ap is_simple_and_free t.is ∙ program_is_free)

comes : (a : App) (words : List Text) (m : ArgMatches) (answer : Result Asked Objection) → IsTaken a words m
    → AsksFor (subcommand_rows_of m) answer → ComesOf words answer
comes a words m answer t h = record {
  taken = no_fault a words m t;
  name = h.0.0;
  rows = h.0.1;
  found = sym (found_in a words m t) ∙ h.1;
  is = h.2;
}

-- a request, or a refusal
pub is_answered : (a : App) (words : List Text) (m : ArgMatches) (s : Said) → IsTaken a words m
    → IsAnswered (subcommand_rows_of m) s → IsSaid words s
is_answered a words m (said.Asked request) t h = comes a words m (Ok (asked request)) t h
is_answered a words m (said.Text text status) t h =
    inl (record { why = h.0; comes = comes a words m (Err h.0) t h.1; text_is = h.2; status_is = h.3 })

-- what clap says
pub is_told : (a : App) (words : List Text) (e : Error) (s : Said) → a ≡ program
    → (is_simple_and_free a ≡ true → HasKind (fault_of a words) e) → IsTold (kind_of e) s → IsSaid words s
is_told a words e (said.Asked request) is has told = absurd told
is_told a words e (said.Text text status) is has told = elim (has (ap is_simple_and_free is ∙ program_is_free)) [
  | inl none ↦ absurd (told.0 none)
  | inr among ↦ inr (record { which = kind_of e; among = subst (λ (b : App). IsAmong (kind_of e) (fault_of b words)) is among; status_is = told.1 })
]
