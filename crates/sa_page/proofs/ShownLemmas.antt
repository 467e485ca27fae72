-- What is shown goes on event by event.
use Rattle.std.proofs.Common.{◌≡◌, ℕ, sym, ◌∙◌, ap, subst, List, [], ◌∷◌, ◌++◌, map, take, drop, append_assoc, inl, inr, refl}
use Rattle.std.proofs.lemmas.List.{append-nil}
use Rattle.std.specs.List.{prefix_len}
use Rattle.sa_base.specs.declared.number.ActNo.{ActNo}
use Rattle.sa_base.specs.declared.record.Item.{Item}
use Rattle.sa_base.specs.declared.record.Record.{Record}
use Rattle.sa_laws.specs.Event.{Event, events_of}
use Rattle.sa_check_moment.specs.Seen.{Seen, event}
use Rattle.sa_check.specs.Items.{is_with, what_of}
use Rattle.sa_check.specs.Judged.{after}
use Rattle.sa_check.proofs.EventLemmas.{first-event}
use Rattle.sa_page.specs.Shown.{changes, ups_after, Shows, WritesShown, WritesOne}

-- so far this was written, and what shows the rest behind it shows the whole
abbrev pub Continues : Seen → List ActNo → List Event → List ℕ → Seen → List ActNo → List Event → List ℕ → Type 0
Continues start ups events old now later rest out = (final : List ℕ) → WritesShown now later rest out final → WritesShown start ups events old final

-- nothing is left
pub shown-all : (m : Seen) (ups : List ActNo) (out : List ℕ) → WritesShown m ups [] out out
shown-all m ups out = record { text = []; shows = refl; written = sym (append-nil out) }

-- an event, and those behind it
pub events-are : (first : Item) (others : List Item) (n : ℕ) (records : List Record) → n ≡ prefix_len (is_with first) others
    → records ≡ first.what ∷ map what_of (take n others)
    → events_of (first ∷ others) ≡ event first.event first.proc records ∷ events_of (drop n others)
events-are first others n records len is =
    first-event first others
    ∙ ap (λ k. event first.event first.proc (first.what ∷ map what_of (take k others)) ∷ events_of (drop k others)) (sym len)
    ∙ ap (λ rs. event first.event first.proc rs ∷ events_of (drop n others)) (sym is)

-- one event more
more : (m next : Seen) (ups later : List ActNo) (e : Event) (es : List Event) (old out final : List ℕ) → WritesOne m ups e old out next later
    → WritesShown next later es out final → WritesShown m ups (e ∷ es) old final
more m next ups later e es old out final goes shown =
    let rest : Shows (after m e) (ups_after ups e) es shown.text =
    subst (λ (us : List ActNo). Shows (after m e) us es shown.text) goes.all (subst (λ (s : Seen). Shows s later es shown.text) goes.moment shown.shows) in
    record {
      text = changes m ups e ++ shown.text;
      shows = inl (goes.steps, (shown.text, rest, refl));
      written = shown.written ∙ ap (λ xs. xs ++ shown.text) goes.written ∙ append_assoc old (changes m ups e) shown.text;
    }

pub goes-on : (start now next : Seen) (first ups later : List ActNo) (events all es : List Event) (old out new : List ℕ) (e : Event) → all ≡ e ∷ es
    → WritesOne now ups e out new next later → Continues start first events old now ups all out → Continues start first events old next later es new
goes-on start now next first ups later events all es old out new e at goes so final shown =
    so final (subst (λ xs. WritesShown now ups xs out final) (sym at) (more now next ups later e es out new final goes shown))

-- only one text shows some events
pub shown-one : (m : Seen) (ups : List ActNo) (events : List Event) (a b : List ℕ) → Shows m ups events a → Shows m ups events b → a ≡ b
shown-one m ups [] a b p q = p ∙ sym q
shown-one m ups (e ∷ es) a b (inl p) (inl q) =
    p.1.2 ∙ ap (λ rest. changes m ups e ++ rest) (shown-one (after m e) (ups_after ups e) es p.1.0 q.1.0 p.1.1 q.1.1) ∙ sym q.1.2
shown-one m ups (e ∷ es) a b (inl p) (inr q) = absurd (q.0 p.0)
shown-one m ups (e ∷ es) a b (inr p) (inl q) = absurd (p.0 q.0)
shown-one m ups (e ∷ es) a b (inr p) (inr q) = p.1 ∙ sym q.1
