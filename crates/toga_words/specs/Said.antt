-- What words say.
use Rattle.std.specs.Prelude.{◌≡◌, ◌≢◌, ◌⊎◌, ℕ, List, [], Option, Some, Result, Ok, Err}
use Rattle.clap.specs.Walk.{Row, Text}
use Rattle.clap.specs.Simple.{subcommand_of}
use Rattle.clap.specs.Kinds.{IsAmong}
use Rattle.clap.specs.Faults.{fault_of}
use Rattle.clap.specs.declared.error.kind.ErrorKind.{ErrorKind}
use Rattle.clap.specs.declared.error.kind.ErrorKind.TheVariants as kind
use Rattle.toga_words.specs.Program.{program}
use Rattle.toga_words.specs.declared.request.Request.{Request}
use Rattle.toga_words.specs.declared.refusal.Refusal.{Refusal}
use Rattle.toga_words.specs.Asked.{Asked, Bytes, Objection, asked, objected}
use Rattle.toga_words.specs.Requests.{request_of}
use Rattle.toga_words.specs.Texts.{refusal_text}
use Rattle.toga_words.specs.declared.read.Said.{Said}
use Rattle.toga_words.specs.declared.read.Said.TheVariants as said

-- help and the version are what was asked for, and all else that clap says is an error
abbrev pub status_of : ErrorKind → ℕ
status_of kind.DisplayHelp = 0
status_of kind.DisplayVersion = 0
status_of other = 1

-- clap takes the words, and this is what comes of them
pub record ComesOf (words : List Text) (answer : Result Asked Objection) : Type 0 where
  pub taken : fault_of program words ≡ []
  pub name : Text
  pub rows : List Row
  pub found : subcommand_of program words ≡ Some (name, rows)
  pub is : request_of name rows ≡ answer

-- clap takes the words, and the request is none
pub record IsRefused (words : List Text) (text : Bytes) (status : ℕ) : Type 0 where
  pub why : Objection
  pub comes : ComesOf words (Err why)
  pub text_is : text ≡ refusal_text why
  pub status_is : status ≡ 1

-- clap does not take the words, or was asked for help or the version
pub record IsClapsOwn (words : List Text) (status : ℕ) : Type 0 where
  pub which : ErrorKind
  pub among : IsAmong which (fault_of program words)
  pub status_is : status ≡ status_of which

-- what a request or its refusal is, as a value
abbrev pub Asks : Result Asked Objection → Result Request Refusal → Type 0
Asks answer (Ok request) = answer ≡ Ok (asked request)
Asks answer (Err why) = answer ≡ Err (objected why)

-- clap found a command, and this is what comes of it
abbrev pub AsksFor : Option (Text × List Row) → Result Asked Objection → Type 0
AsksFor found answer = (p : Text × List Row) × (found ≡ Some p) × (request_of p.0 p.1 ≡ answer)

abbrev pub AsksBy : Option (Text × List Row) → Result Request Refusal → Type 0
AsksBy found (Ok request) = AsksFor found (Ok (asked request))
AsksBy found (Err why) = AsksFor found (Err (objected why))

-- what is said where clap found a command
abbrev pub IsAnswered : Option (Text × List Row) → Said → Type 0
IsAnswered found (said.Asked request) = AsksFor found (Ok (asked request))
IsAnswered found (said.Text text status) = (e : Objection) × AsksFor found (Err e) × (text.items ≡ refusal_text e) × (status ≡ 1)

-- what is told where clap has an error of this kind
abbrev pub IsTold : ErrorKind → Said → Type 0
IsTold which (said.Asked request) = ⊥
IsTold which (said.Text text status) = (which ≢ kind.OutOfMemory) × (status ≡ status_of which)

abbrev pub IsSaid : List Text → Said → Type 0
IsSaid words (said.Asked request) = ComesOf words (Ok (asked request))
IsSaid words (said.Text text status) = IsRefused words text.items status ⊎ IsClapsOwn words status
