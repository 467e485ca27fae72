-- The turns of a history, event by event.
use Rattle.std.proofs.Common.{◌≡◌, ℕ, ◌+◌, ◌<◌, List, [], ◌∷◌, ◌++◌, length, map, take, drop, get_or, sym, ap, ◌∙◌, append_assoc, append-nil}
use Rattle.std.specs.List.{flat_map, fold, prefix_len}
use Rattle.std.proofs.lemmas.List.{take_more, map-append}
use Rattle.std.proofs.lemmas.List.Sums.{fold-append}
use Rattle.sa_base.specs.declared.record.Item.{Item}
use Rattle.sa_base.specs.declared.record.Record.{Record}
use Rattle.sa_laws.specs.Event.{Event, events_of}
use Rattle.sa_check_moment.specs.Seen.{event}
use Rattle.sa_check.specs.Items.{is_with, what_of}
use Rattle.sa_check.proofs.EventLemmas.{first-event}
use Rattle.toga_kinds.specs.declared.kind.Kind.{Kind}
use Rattle.toga_kinds.specs.declared.kind.Turn.{Turn}
use Rattle.toga_kinds.specs.Kinds.{first_of, kind_of_record, turn_if}

-- one event, and those behind it
pub turns-more :
    (first : Item) (others rest later : List Item) (n : ℕ) (old now all : List Turn) → rest ≡ first ∷ others → n ≡ prefix_len (is_with first) others
    → later ≡ drop n others → now ≡ old ++ turn_if (event first.event first.proc (first.what ∷ map what_of (take n others)))
    → old ++ flat_map turn_if (events_of rest) ≡ all → now ++ flat_map turn_if (events_of later) ≡ all
turns-more first others rest later n old now all is len left made so =
    let e = event first.event first.proc (first.what ∷ map what_of (take n others)) in
    let events : events_of rest ≡ e ∷ events_of (drop n others) =
    ap events_of is ∙ first-event first others
    ∙ ap (λ k. event first.event first.proc (first.what ∷ map what_of (take k others)) ∷ events_of (drop k others)) (sym len) in
    ap (λ ts. ts ++ flat_map turn_if (events_of later)) made ∙ ap (λ xs. (old ++ turn_if e) ++ flat_map turn_if (events_of xs)) left
    ∙ append_assoc old (turn_if e) (flat_map turn_if (events_of (drop n others))) ∙ ap (λ es. old ++ flat_map turn_if es) (sym events) ∙ so

-- none is left
pub turns-all :
    (rest : List Item) (now all : List Turn) → rest ≡ [] → now ++ flat_map turn_if (events_of rest) ≡ all → now ≡ all
turns-all rest now all none so = sym (append-nil now) ∙ ap (λ xs. now ++ flat_map turn_if (events_of xs)) (sym none) ∙ so

-- one record more
abbrev pub with_record : Kind → Record → Kind
with_record kind x = first_of kind (kind_of_record x)

pub kinds-more :
    (start now next : Kind) (items : List Item) (i : ℕ) (d : Item) → i < length items → now ≡ fold with_record start (map what_of (take i items))
    → next ≡ with_record now (get_or items i d).what → next ≡ fold with_record start (map what_of (take (i + 1) items))
kinds-more start now next items i d within so made =
    made ∙ ap (λ k. with_record k (get_or items i d).what) so
    ∙ sym (ap (λ zs. fold with_record start (map what_of zs)) (take_more items i d within)
    ∙ ap (fold with_record start) (map-append what_of (take i items) (get_or items i d ∷ []))
    ∙ fold-append with_record start (map what_of (take i items)) ((get_or items i d).what ∷ []))
