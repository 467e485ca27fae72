-- A line has one spelling in pieces, which is read back.
use Rattle.std.proofs.Common.{◌≡◌, ℕ, ◌^◌, ◌<◌, ◌≤◌, false, cond, List, [], ◌∷◌, map, Option, Some, None, Result, Ok, Err, refl, sym, ap, ◌∙◌, subst, inl, inr, arith}
use Rattle.std.specs.Prelude.{All, codes, decimal}
use Rattle.std.specs.Str.{bytes_eq}
use Rattle.std.proofs.lemmas.Bool.Decides.{eqb_tells}
use Rattle.std.proofs.lemmas.Slice.Eq.{bytes_eq-Decides}
use Rattle.std.proofs.lemmas.List.Elements.{All-head, All-tail}
use Rattle.std.proofs.lemmas.Bool.{false_from_ne_true}
use Rattle.sa_base.specs.declared.number.ProcNo.{ProcNo}
use Rattle.sa_base.specs.declared.record.End.{End}
use Rattle.sa_base.specs.declared.record.End.TheVariants.{AllDone, Stuck, Budget}
use Rattle.sa_base.specs.declared.record.Item.{Item}
use Rattle.sa_base.specs.declared.record.Record.{Record}
use Rattle.sa_base.specs.declared.refusal.Cause.{Cause}
use Rattle.sa_base.specs.declared.refusal.Cause.TheVariants.{BadWord}
use Rattle.sa_trace.specs.Parts.{parts_of, FitTheKind}
use Rattle.sa_text.specs.Pieces.{LacksSpace}
use Rattle.sa_text.proofs.Spelling.{decimal-is_spelling}
use Rattle.sa_lemmas.proofs.Booleans.{if_either}
use Rattle.sa_trace.specs.TraceText.{counts_of, end_word}
use Rattle.sa_trace.specs.declared.so_far.SoFar.{SoFar}
use Rattle.sa_trace.specs.declared.line.Said.{Said}
use Rattle.sa_trace.specs.declared.line.Said.TheVariants.{Next, Last}
use Rattle.sa_trace.specs.Pieces.{and_then, unless, number_in, wrong_count, end_of}
use Rattle.sa_trace.specs.Line.{MAX16, MAX64, last_of, so_far, least_event, processor_in, record_in, item_by, item_at, counts_at, end_at, said_by}
use Rattle.sa_trace.specs.Text.{FitsItem, MayFollow}
use Rattle.sa_trace.proofs.Readings.{and_then-ok, same_Ok, number_in-ok, number_in-decimal, wrong_count-none, wrong_count-decimals}
use Rattle.sa_trace.proofs.Records.{record_pieces, record_in-ok, record_in-pieces}

-- an item in pieces, and the last line
abbrev pub item_pieces : Item → List (List ℕ)
item_pieces item = decimal item.event ∷ decimal item.proc.0 ∷ record_pieces item.what

abbrev pub last_pieces : List ℕ → End → ℕ → List (List ℕ)
last_pieces counts end events = codes "end" ∷ end_word end ∷ decimal events ∷ map decimal counts

-- the processor of an item fits its type
abbrev pub FitsProc : Option Item → Type 0
FitsProc None = Unit {0}
FitsProc (Some item) = item.proc.0 < 2 ^ 16

-- the processor is that of the item, if the event is
abbrev pub SameProc : Option Item → ℕ → ℕ → Type 0
SameProc None event proc = Unit {0}
SameProc (Some last) event proc = event ≡ last.event → proc ≡ last.proc.0

processor_in-ok : (last : Option Item) (event : ℕ) (p : List ℕ) (proc : ℕ) → FitsProc last → processor_in last event p ≡ Ok proc
    → (p ≡ decimal proc) × (proc < 2 ^ 16) × SameProc last event proc
processor_in-ok None event p proc fits h = let read = number_in-ok 0 MAX16 p proc h in (read.0, omega (arith, read.3), tt)
processor_in-ok (Some last) event p proc fits h =
    elim (eqb_tells event last.event) [
      | inl same ↦
          let read = number_in-ok last.proc.0 last.proc.0 p proc
          (sym (ap (λ b. cond b (number_in last.proc.0 last.proc.0 p) (number_in 0 MAX16 p)) same.0) ∙ h) in
          (read.0, omega (arith, read.3), λ e. omega (arith, read.2, read.3))
      | inr other ↦
          let read = number_in-ok 0 MAX16 p proc (sym (ap (λ b. cond b (number_in last.proc.0 last.proc.0 p) (number_in 0 MAX16 p)) other.0) ∙ h) in
          (read.0, omega (arith, read.3), λ e. absurd (other.1 e))
    ]

processor_in-decimal : (last : Option Item) (event proc : ℕ) → proc < 2 ^ 16 → SameProc last event proc → processor_in last event (decimal proc) ≡ Ok proc
processor_in-decimal None event proc small same = number_in-decimal 0 MAX16 proc (omega arith) (omega arith) (omega arith)
processor_in-decimal (Some last) event proc small same =
    elim (eqb_tells event last.event) [
      | inl here ↦
          let is : proc ≡ last.proc.0 = same here.1 in
          ap (λ b. cond b (number_in last.proc.0 last.proc.0 (decimal proc)) (number_in 0 MAX16 (decimal proc))) here.0
          ∙ number_in-decimal last.proc.0 last.proc.0 proc (omega arith) (omega arith) (omega arith)
      | inr other ↦
          ap (λ b. cond b (number_in last.proc.0 last.proc.0 (decimal proc)) (number_in 0 MAX16 (decimal proc))) other.0
          ∙ number_in-decimal 0 MAX16 proc (omega arith) (omega arith) (omega arith)
    ]

-- what follows an event is the processor and the record
pub record IsItemAt (last : Option Item) (event : ℕ) (ps : List (List ℕ)) (said : Said) : Type 0 where
  pub proc : ℕ
  pub what : Record
  pub is : said ≡ Next (record { event = event; proc = record { 0 = proc }; what = what })
  pub pieces : ps ≡ decimal proc ∷ record_pieces what
  pub small : proc < 2 ^ 16
  pub same : SameProc last event proc
  pub fit : FitTheKind (parts_of what)

pub item_at-ok : (last : Option Item) (event : ℕ) (ps : List (List ℕ)) (said : Said) → FitsProc last → All LacksSpace ps → item_at last event ps ≡ Ok said
    → IsItemAt last event ps said
item_at-ok last event [] said fits lacks h = absurd cc
item_at-ok last event (p ∷ rest) said fits lacks h =
    let proc = and_then-ok (processor_in last event p) (λ proc. item_by event proc rest) said h in
    let read = processor_in-ok last event p proc.0 fits proc.1 in
    let what = and_then-ok (record_in rest) (λ what. Ok (Next (record { event = event; proc = record { 0 = proc.0 }; what = what }))) said proc.2 in
    let rec = record_in-ok rest what.0 (All-tail LacksSpace p rest lacks) what.1 in
    record {
      proc = proc.0;
      what = what.0;
      is = sym (same_Ok (Next (record { event = event; proc = record { 0 = proc.0 }; what = what.0 })) said what.2);
      pieces = ap (λ x. x ∷ rest) read.0 ∙ ap (λ r. decimal proc.0 ∷ r) rec.0;
      small = read.1;
      same = read.2;
      fit = rec.1;
    }

-- a decimal text is not the word `end`
no_end : (n : ℕ) → n < 2 ^ 64 → bytes_eq (decimal n) (codes "end") ≡ false
no_end n small = false_from_ne_true (bytes_eq (decimal n) (codes "end")) (λ same.
    let word : decimal n ≡ 101 ∷ 110 ∷ 100 ∷ [] = (bytes_eq-Decides (decimal n) (codes "end")).0 same in
    let digits : All (λ b. (48 ≤ b) × (b ≤ 57)) (101 ∷ 110 ∷ 100 ∷ []) =
    subst (λ bs. All (λ b. (48 ≤ b) × (b ≤ 57)) bs) word (decimal-is_spelling n small).digits in
    let first : 101 ≤ 57 = (All-head (λ b. (48 ≤ b) × (b ≤ 57)) 101 (110 ∷ 100 ∷ []) digits).1 in omega arith)

follows_least : (last : Option Item) (item : Item) → MayFollow last item → (least_event last ≤ item.event) × SameProc last item.event item.proc.0
follows_least None item h = (omega arith, tt)
follows_least (Some last) item h = (h.0, λ e. ap (λ (p : ProcNo). p.0) (h.1 e))

least_follows : (last : Option Item) (event proc : ℕ) (what : Record) → least_event last ≤ event → SameProc last event proc
    → MayFollow last (record { event = event; proc = record { 0 = proc }; what = what })
least_follows None event proc what low same = tt
least_follows (Some last) event proc what low same = (low, λ e. ap (λ (n : ℕ). (λ (p : ProcNo). p) (record { 0 = n })) (same e))

-- the pieces of an item are read as the item
pub said_by-item : (so : SoFar) (item : Item) → FitsItem item → MayFollow so.last item → said_by so (item_pieces item) ≡ Ok (Next item)
said_by-item so item fits follows =
    let low = follows_least so.last item follows in
    ap (λ b. cond b (end_at so (decimal item.proc.0 ∷ record_pieces item.what))
    (and_then (number_in (least_event so.last) MAX64 (decimal item.event))
    (λ event. item_at so.last event (decimal item.proc.0 ∷ record_pieces item.what))))
    (no_end item.event fits.event)
    ∙ ap (λ r. and_then r (λ event. item_at so.last event (decimal item.proc.0 ∷ record_pieces item.what)))
    (number_in-decimal (least_event so.last) MAX64 item.event fits.event low.0 (omega (arith, fits.event)))
    ∙ ap (λ r. and_then r (λ proc. item_by item.event proc (record_pieces item.what)))
    (processor_in-decimal so.last item.event item.proc.0 fits.proc low.1)
    ∙ ap (λ r. and_then r (λ what. Ok (Next (record { event = item.event; proc = record { 0 = item.proc.0 }; what = what }))))
    (record_in-pieces item.what fits.what)

no_end_word : (end : End) → (λ (r : Result End Cause). r) (Err BadWord) ≡ Ok end → ⊥
no_end_word end h = absurd cc

end_of-ok : (w : List ℕ) (end : End) → end_of w ≡ Ok end → w ≡ end_word end
end_of-ok w end h =
    elim (if_either (bytes_eq w (end_word AllDone)) (Ok AllDone) _ (Ok end) h) [
      | inl all ↦ (bytes_eq-Decides w (end_word AllDone)).0 all.0 ∙ ap end_word (same_Ok AllDone end all.1)
      | inr other ↦ elim (if_either (bytes_eq w (end_word Stuck)) (Ok Stuck) _ (Ok end) other.1) [
        | inl stuck ↦ (bytes_eq-Decides w (end_word Stuck)).0 stuck.0 ∙ ap end_word (same_Ok Stuck end stuck.1)
        | inr third ↦ elim (if_either (bytes_eq w (end_word Budget)) (Ok Budget) (Err BadWord) (Ok end) third.1) [
          | inl budget ↦ (bytes_eq-Decides w (end_word Budget)).0 budget.0 ∙ ap end_word (same_Ok Budget end budget.1)
          | inr none ↦ absurd (no_end_word end none.1)
        ]
      ]
    ]

end_of-word : (end : End) → end_of (end_word end) ≡ Ok end
end_of-word AllDone = refl
end_of-word _ = refl

unless-ok : (o : Option Cause) (a said : Said) → unless o a ≡ Ok said → (o ≡ None) × (a ≡ said)
unless-ok None a said h = (refl, same_Ok a said h)
unless-ok (Some cause) a said h = absurd cc

-- what follows the word `end`
pub record IsLastAt (least : ℕ) (counts : List ℕ) (ps : List (List ℕ)) (said : Said) : Type 0 where
  pub end : End
  pub events : ℕ
  pub is : said ≡ Last end events
  pub pieces : ps ≡ end_word end ∷ decimal events ∷ map decimal counts
  pub enough : least ≤ events
  pub small : events < 2 ^ 64
  pub few : All (λ n. n < 2 ^ 64) counts

counts_at-ok : (least : ℕ) (counts : List ℕ) (end : End) (w : List ℕ) (ps : List (List ℕ)) (said : Said) → w ≡ end_word end
    → counts_at least counts end ps ≡ Ok said
    → IsLastAt least counts (w ∷ ps) said
counts_at-ok least counts end w [] said word h = absurd cc
counts_at-ok least counts end w (p ∷ rest) said word h =
    let events = and_then-ok (number_in least MAX64 p) (λ events. unless (wrong_count counts rest) (Last end events)) said h in
    let read = number_in-ok least MAX64 p events.0 events.1 in
    let none = unless-ok (wrong_count counts rest) (Last end events.0) said events.2 in
    record {
      end = end;
      events = events.0;
      is = sym none.1;
      pieces = ap (λ x. x ∷ p ∷ rest) word ∙ ap (λ x. end_word end ∷ x ∷ rest) read.0
          ∙ ap (λ r. end_word end ∷ decimal events.0 ∷ r) (wrong_count-none counts rest none.0).0;
      enough = read.2;
      small = read.1;
      few = (wrong_count-none counts rest none.0).1;
    }

pub end_at-ok : (items : List Item) (ps : List (List ℕ)) (said : Said) → end_at (so_far items) ps ≡ Ok said
    → IsLastAt (least_event (last_of items)) (counts_of items) ps said
end_at-ok items [] said h = absurd cc
end_at-ok items (w ∷ rest) said h =
    let end = and_then-ok (end_of w) (λ end. counts_at (least_event (last_of items)) (counts_of items) end rest) said h in
    counts_at-ok (least_event (last_of items)) (counts_of items) end.0 w rest said (end_of-ok w end.0 end.1) end.2

-- the pieces of the last line are read as the end
pub said_by-last : (items : List Item) (end : End) (events : ℕ) → least_event (last_of items) ≤ events → events < 2 ^ 64
    → All (λ n. n < 2 ^ 64) (counts_of items)
    → said_by (so_far items) (last_pieces (counts_of items) end events) ≡ Ok (Last end events)
said_by-last items end events enough small few =
    ap (λ r. and_then r (λ e. counts_at (least_event (last_of items)) (counts_of items) e (decimal events ∷ map decimal (counts_of items)))) (end_of-word end)
    ∙ ap (λ r. and_then r (λ n. unless (wrong_count (counts_of items) (map decimal (counts_of items))) (Last end n)))
    (number_in-decimal (least_event (last_of items)) MAX64 events small enough (omega arith))
    ∙ ap (λ o. unless o (Last end events)) (wrong_count-decimals (counts_of items) few)

next_no_last : {least : ℕ} {counts : List ℕ} {ps : List (List ℕ)} {item : Item} → IsLastAt least counts ps (Next item) → ⊥
next_no_last is = let e = is.is in absurd cc

last_no_next : {last : Option Item} {event : ℕ} {ps : List (List ℕ)} {end : End} {events : ℕ} → IsItemAt last event ps (Last end events) → ⊥
last_no_next is = let e = is.is in absurd cc

same_Next : (a b : Item) → Next a ≡ Next b → a ≡ b
same_Next a b h = cc

same_Last : (a b : End) (m n : ℕ) → Last a m ≡ Last b n → (a ≡ b) × (m ≡ n)
same_Last a b m n h = (cc, cc)

-- pieces that are read as an item are the item's
pub said_by-next : (items : List Item) (ps : List (List ℕ)) (item : Item) → FitsProc (last_of items) → All LacksSpace ps
    → said_by (so_far items) ps ≡ Ok (Next item)
    → (ps ≡ item_pieces item) × FitsItem item × MayFollow (last_of items) item
said_by-next items [] item fits lacks h = absurd cc
said_by-next items (p ∷ rest) item fits lacks h =
    elim (if_either (bytes_eq p (codes "end")) (end_at (so_far items) rest)
    (and_then (number_in (least_event (last_of items)) MAX64 p) (λ event. item_at (last_of items) event rest)) (Ok (Next item)) h) [
      | inl ended ↦ absurd (next_no_last (end_at-ok items rest (Next item) ended.1))
      | inr other ↦
          let event = and_then-ok (number_in (least_event (last_of items)) MAX64 p) (λ event. item_at (last_of items) event rest) (Next item) other.1 in
          let read = number_in-ok (least_event (last_of items)) MAX64 p event.0 event.1 in
          let is = item_at-ok (last_of items) event.0 rest (Next item) fits (All-tail LacksSpace p rest lacks) event.2 in
          let same : record { event = event.0; proc = record { 0 = is.proc }; what = is.what } ≡ item = same_Next _ item (sym is.is) in
          subst (λ i. (p ∷ rest ≡ item_pieces i) × FitsItem i × MayFollow (last_of items) i) same (
            ap (λ x. x ∷ rest) read.0 ∙ ap (λ r. decimal event.0 ∷ r) is.pieces,
            record { event = read.1; proc = is.small; what = is.fit },
            least_follows (last_of items) event.0 is.proc is.what read.2 is.same,
          )
    ]

-- and pieces that are read as the end are those of the last line
pub said_by-end : (items : List Item) (ps : List (List ℕ)) (end : End) (events : ℕ) → FitsProc (last_of items) → All LacksSpace ps
    → said_by (so_far items) ps ≡ Ok (Last end events)
    → (ps ≡ last_pieces (counts_of items) end events) × (least_event (last_of items) ≤ events) × (events < 2 ^ 64) × All (λ n. n < 2 ^ 64) (counts_of items)
said_by-end items [] end events fits lacks h = absurd cc
said_by-end items (p ∷ rest) end events fits lacks h =
    elim (if_either (bytes_eq p (codes "end")) (end_at (so_far items) rest)
    (and_then (number_in (least_event (last_of items)) MAX64 p) (λ event. item_at (last_of items) event rest)) (Ok (Last end events)) h) [
      | inl ended ↦
          let is = end_at-ok items rest (Last end events) ended.1 in
          let same = same_Last is.end end is.events events (sym is.is) in (
            ap (λ x. x ∷ rest) ((bytes_eq-Decides p (codes "end")).0 ended.0)
                ∙ ap (λ r. codes "end" ∷ r) (is.pieces ∙ ap (λ e. end_word e ∷ decimal is.events ∷ map decimal (counts_of items)) same.0
                ∙ ap (λ n. end_word end ∷ decimal n ∷ map decimal (counts_of items)) same.1),
            subst (λ n. least_event (last_of items) ≤ n) same.1 is.enough,
            subst (λ n. n < 2 ^ 64) same.1 is.small,
            is.few,
          )
      | inr other ↦
          let event = and_then-ok (number_in (least_event (last_of items)) MAX64 p) (λ event. item_at (last_of items) event rest) (Last end events) other.1 in
          absurd (last_no_next (item_at-ok (last_of items) event.0 rest (Last end events) fits (All-tail LacksSpace p rest lacks) event.2))
    ]
