-- The subcommand that clap found, from its name and its rows.
use Rattle.std.proofs.Common.{◌≡◌, List, Option, Some, None, Result, Ok, Err, ap, ap₂, sym}
use Rattle.std.specs.Prelude.{option_map, unwrap_or}
use Rattle.clap.specs.Walk.{Row, Text}
use Rattle.toga_words.specs.Requests.{request_of}
use Rattle.toga_words.specs.Said.{Asks, AsksBy}
use Rattle.toga_words.specs.declared.request.Request.{Request}
use Rattle.toga_words.specs.declared.refusal.Refusal.{Refusal}

pub named : {X : Type 0} (o : Option X) (name : X → Text) (rows : X → List Row) (n : Text) (r : List Row) → Some n ≡ option_map name o
    → Some r ≡ option_map (λ (p : Text × List Row). p.1) (option_map {U = Text × List Row} (λ b. (name b, rows b)) o) → option_map {U = Text × List Row} (λ b. (name b, rows b)) o ≡ Some (n, r)
named None name rows n r e f = cc
named (Some b) name rows n r e f = ap₂ (λ (x : Text) (y : List Row). Some (x, y))
    (sym (ap (λ (o : Option Text). unwrap_or o n) e)) (sym (ap (λ (o : Option (List Row)). unwrap_or o r) f))

pub asks_by : (found : Option (Text × List Row)) (n : Text) (rows : List Row) (r : Result Request Refusal) → found ≡ Some (n, rows)
    → Asks (request_of n rows) r → AsksBy found r
asks_by found n rows (Ok q) e h = ((n, rows), e, h)
asks_by found n rows (Err w) e h = ((n, rows), e, h)
