-- The line that is refused is the first that no text has after the lines before it.
use Rattle.std.proofs.Common.{◌≡◌, ◌≢◌, ℕ, suc, ◌+◌, ◌-◌, ◌^◌, ◌<◌, ◌≤◌, List, [], ◌∷◌, ◌++◌, length, take, Option, Some, None, Result, Ok, Err, ◌⊎◌, refl, sym, ap, ◌∙◌, subst, inl, inr, arith, append_assoc, append-nil, length-append}
use Rattle.std.specs.Prelude.{All, ◌==◌}
use Rattle.std.specs.List.{range_with_len}
use Rattle.std.proofs.lemmas.Bool.Decides.{eqb_tells, leb_tells}
use Rattle.std.proofs.lemmas.List.Sums.{count_by-le-length}
use Rattle.std.proofs.lemmas.Option.{same_Some}
use Rattle.std.proofs.lemmas.List.Elements.{All-nil, All-cons, All-map}
use Rattle.std.proofs.lemmas.List.{take-take}
use Rattle.sa_trace.specs.declared.kind.TheConstants.{RECORD_KINDS}
use Rattle.sa_base.specs.declared.record.End.{End}
use Rattle.sa_base.specs.declared.record.End.TheVariants.{AllDone}
use Rattle.sa_base.specs.declared.record.Item.{Item}
use Rattle.sa_base.specs.declared.refusal.Bad.{Bad}
use Rattle.sa_base.specs.declared.refusal.Cause.{Cause}
use Rattle.sa_base.specs.Cause.{bad_at}
use Rattle.sa_text.specs.LineText.{LineText, line_texts}
use Rattle.sa_text.proofs.LineLemmas.{length-line_texts-le}
use Rattle.sa_trace.specs.TraceText.{kind_number, count_of_kind, counts_of, trace_text}
use Rattle.sa_trace.specs.declared.line.Said.{Said}
use Rattle.sa_trace.specs.declared.line.Said.TheVariants.{Next, Last}
use Rattle.sa_trace.specs.Pieces.{unless}
use Rattle.sa_trace.specs.Line.{last_of, so_far, least_event, line_in}
use Rattle.sa_trace.specs.Reading.{Told, told, bad_after, cause_after, after_line, read_from, read_of}
use Rattle.sa_trace.specs.Text.{FitsItem, InOrder}
use Rattle.sa_trace.specs.TextLaws.{IsFirstBad}
use Rattle.sa_trace.proofs.Lines.{FitsProc}
use Rattle.sa_trace.proofs.Whole.{item_line, text_lines, line_in-next, line_in-end, last_of-append, step, AreAccepted, text-lines, read_of-text}

same_bad : (a b : Bad) → (λ (r : Result Told Bad). r) (Err a) ≡ Err b → a ≡ b
same_bad a b h = cc

pub same_cons : {A : Type 0} (x y : A) (xs ys : List A) → x ∷ xs ≡ y ∷ ys → (x ≡ y) × (xs ≡ ys)
same_cons x y xs ys h = (cc, cc)

after_line-err : (number : ℕ) (r : Result Said Cause) (more : Item → Result Told Bad) (last : End → ℕ → Result Told Bad) (bad : Bad)
    → after_line number r more last ≡ Err bad
    → ((cause : Cause) × (r ≡ Err cause) × (bad_at number cause ≡ bad))
    ⊎ (((item : Item) × (r ≡ Ok (Next item)) × (more item ≡ Err bad)) ⊎ ((end : End) × (events : ℕ) × (r ≡ Ok (Last end events)) × (last end events ≡ Err bad)))
after_line-err number (Err cause) more last bad h = inl (cause, refl, same_bad (bad_at number cause) bad h)
after_line-err number (Ok (Next item)) more last bad h = inr (inl (item, refl, h))
after_line-err number (Ok (Last end events)) more last bad h = inr (inr (end, events, refl, h))

unless-err : (o : Option Bad) (t : Told) (bad : Bad) → unless o t ≡ Err bad → o ≡ Some bad
unless-err None t bad h = absurd cc
unless-err (Some b) t bad h = ap (λ x. Some x) (same_bad b bad h)

pub some_after : (cause : ℕ → LineText → Cause) (number : ℕ) (lines : List LineText) (bad : Bad) → bad_after cause number lines ≡ Some bad
    → (bad.line ≡ number) × (1 ≤ length lines)
some_after cause number [] bad h = absurd cc
some_after cause number (line ∷ lines) bad h = (let e : _ ≡ bad = same_Some _ bad h in sym (ap (λ (b : Bad). b.line) e), omega arith)

pub same_after : (cause : ℕ → LineText → Cause) (number : ℕ) (others lines : List LineText) → take 1 others ≡ take 1 lines
    → bad_after cause number others ≡ bad_after cause number lines
same_after cause number [] [] h = refl
same_after cause number (other ∷ others) (line ∷ lines) h = ap (λ l. bad_after cause number (l ∷ [])) (same_cons other line [] [] h).0
same_after cause number _ _ h = absurd cc

-- the counts of few items are small
pub all-of : {A : Type 0} (P : A → Type 0) (xs : List A) → ((x : A) → P x) → All P xs
all-of P [] h = All-nil P
all-of P (x ∷ xs) h = All-cons P x xs (h x) (all-of P xs h)

counts-small : (items : List Item) → length items < 2 ^ 64 → All (λ n. n < 2 ^ 64) (counts_of items)
unfolding counts_of
counts-small items few =
    All-map (λ n. n < 2 ^ 64) (λ k. count_of_kind items (k + 1)) (range_with_len 0 RECORD_KINDS)
    (all-of (λ k. count_of_kind items (k + 1) < 2 ^ 64) (range_with_len 0 RECORD_KINDS)
    (λ k. omega (arith, count_by-le-length (λ (i : Item). kind_number i.what == k + 1) items)))

-- the last item fits its type
abbrev pub FitsLast : Option Item → Type 0
FitsLast None = Unit {0}
FitsLast (Some item) = FitsItem item

fits_proc : (last : Option Item) → FitsLast last → FitsProc last
fits_proc None h = tt
fits_proc (Some item) h = h.proc

least-small : (last : Option Item) → FitsLast last → least_event last < 2 ^ 64
least-small None h = omega arith
least-small (Some item) h = h.event

-- any items can be a text's at once
can_end : (before : List Item) → FitsLast (last_of before) → length before < 2 ^ 64 → AreAccepted before [] before (least_event (last_of before))
can_end before fits few = record {
  all = sym (append-nil before);
  fit = All-nil FitsItem;
  in_order = tt;
  enough = omega arith;
  small = least-small (last_of before) fits;
  few = counts-small before few;
}

-- reading stops k lines on: some text has these k lines, and what goes on with the next line too is refused alike
pub record Stops (number : ℕ) (before : List Item) (lines : List LineText) (bad : Bad) (k : ℕ) : Type 0 where
  pub line : bad.line ≡ number + k
  pub within : k ≤ length lines
  pub more : List Item
  pub whole : List Item
  pub end : End
  pub events : ℕ
  pub accepted : AreAccepted before more whole events
  pub front : take k (text_lines more whole end events) ≡ take k lines
  pub alike : (others : List LineText) → take (suc k) others ≡ take (suc k) lines → read_from number before others ≡ Err bad

no_line-alike : (number : ℕ) (before : List Item) (bad : Bad) → read_from number before [] ≡ Err bad → (others : List LineText) → take 1 others ≡ []
    → read_from number before others ≡ Err bad
no_line-alike number before bad h [] e = h
no_line-alike number before bad h (other ∷ others) e = absurd cc

cause-alike : (number : ℕ) (before : List Item) (line : LineText) (lines : List LineText) (cause : Cause) (bad : Bad) → line_in (so_far before) line ≡ Err cause
    → bad_at number cause ≡ bad
    → (others : List LineText) → take 1 others ≡ take 1 (line ∷ lines) → read_from number before others ≡ Err bad
cause-alike number before line lines cause bad wrong is [] e = absurd cc
cause-alike number before line lines cause bad wrong is (other ∷ others) e =
    let same = same_cons other line [] [] e in
    ap (step number before others) (ap (line_in (so_far before)) same.0 ∙ wrong) ∙ ap (λ b. Err b) is

next-alike : (number : ℕ) (before : List Item) (line : LineText) (lines : List LineText) (item : Item) (bad : Bad) (k : ℕ)
    → line_in (so_far before) line ≡ Ok (Next item)
    → ((others : List LineText) → take (suc k) others ≡ take (suc k) lines → read_from (number + 1) (before ++ item ∷ []) others ≡ Err bad)
    → (others : List LineText) → take (suc (suc k)) others ≡ take (suc (suc k)) (line ∷ lines) → read_from number before others ≡ Err bad
next-alike number before line lines item bad k next later [] e = absurd cc
next-alike number before line lines item bad k next later (other ∷ others) e =
    let same = same_cons other line (take (suc k) others) (take (suc k) lines) e in
    ap (step number before others) (ap (line_in (so_far before)) same.0 ∙ next) ∙ later others same.1

last-alike : (number : ℕ) (before : List Item) (line : LineText) (lines : List LineText) (end : End) (events : ℕ) (bad : Bad)
    → line_in (so_far before) line ≡ Ok (Last end events)
    → bad_after cause_after (number + 1) lines ≡ Some bad
    → (others : List LineText) → take 2 others ≡ take 2 (line ∷ lines) → read_from number before others ≡ Err bad
last-alike number before line lines end events bad last behind [] e = absurd cc
last-alike number before line lines end events bad last behind (other ∷ others) e =
    let same = same_cons other line (take 1 others) (take 1 lines) e in
    ap (step number before others) (ap (line_in (so_far before)) same.0 ∙ last)
    ∙ ap (λ o. unless o (told before end events)) (same_after cause_after (number + 1) others lines same.1 ∙ behind)

pub stops : (number : ℕ) (before : List Item) (lines : List LineText) (bad : Bad) → FitsLast (last_of before) → length before + length lines < 2 ^ 64
    → read_from number before lines ≡ Err bad → (k : ℕ) × Stops number before lines bad k
stops number before [] bad fits few h = (
  0,
  record {
    line = omega (arith, ap (λ (b : Bad). b.line) (same_bad _ bad h));
    within = omega arith;
    more = [];
    whole = before;
    end = AllDone;
    events = least_event (last_of before);
    accepted = can_end before fits (omega arith);
    front = refl;
    alike = no_line-alike number before bad h;
  },
)
stops number before (line ∷ lines) bad fits few h =
    elim (after_line-err number (line_in (so_far before) line) (λ item. read_from (number + 1) (before ++ item ∷ []) lines)
    (λ end events. unless (bad_after cause_after (number + 1) lines) (told before end events)) bad h) [
      | inl wrong ↦ (
        0,
        record {
          line = omega (arith, ap (λ (b : Bad). b.line) wrong.2);
          within = omega arith;
          more = [];
          whole = before;
          end = AllDone;
          events = least_event (last_of before);
          accepted = can_end before fits (omega arith);
          front = refl;
          alike = cause-alike number before line lines wrong.0 bad wrong.1 wrong.2;
        },
      )
      | inr right ↦ elim right [
        | inl next ↦
            let is = line_in-next before line next.0 (fits_proc (last_of before) fits) next.1 in
            let rest = stops (number + 1) (before ++ next.0 ∷ []) lines bad (subst FitsLast (sym (last_of-append before next.0)) is.1)
            (omega (arith, length-append before (next.0 ∷ []))) next.2 in
            let later = rest.1 in (
              suc rest.0,
              record {
                line = omega (arith, later.line);
                within = omega (arith, later.within);
                more = next.0 ∷ later.more;
                whole = later.whole;
                end = later.end;
                events = later.events;
                accepted = record {
                  all = later.accepted.all ∙ append_assoc before (next.0 ∷ []) later.more;
                  fit = All-cons FitsItem next.0 later.more is.1 later.accepted.fit;
                  in_order = (is.2, subst (λ last. InOrder last later.more) (last_of-append before next.0) later.accepted.in_order);
                  enough = later.accepted.enough;
                  small = later.accepted.small;
                  few = later.accepted.few;
                };
                front = ap (λ ls. item_line next.0 ∷ ls) later.front ∙ ap (λ l. l ∷ take rest.0 lines) (sym is.0);
                alike = next-alike number before line lines next.0 bad rest.0 next.1 later.alike;
              },
            )
        | inr last ↦
            let is = line_in-end before line last.0 last.1 (fits_proc (last_of before) fits) last.2 in
            let behind = unless-err (bad_after cause_after (number + 1) lines) (told before last.0 last.1) bad last.3 in
            let some = some_after cause_after (number + 1) lines bad behind in (
              1,
              record {
                line = some.0;
                within = omega arith;
                more = [];
                whole = before;
                end = last.0;
                events = last.1;
                accepted = record { all = sym (append-nil before); fit = All-nil FitsItem; in_order = tt; enough = is.1; small = is.2; few = is.3 };
                front = ap (λ l. l ∷ []) (sym is.0);
                alike = last-alike number before line lines last.0 last.1 bad last.2 behind;
              },
            )
      ]
    ]

no_both : (r : Result Told Bad) (bad : Bad) (t : Told) → r ≡ Err bad → r ≡ Ok t → ⊥
no_both r bad t a b = absurd cc

-- a line that is refused is the first bad one
pub refused-first : (text : List ℕ) (bad : Bad) → length text < 2 ^ 64 → read_of text ≡ Err bad → IsFirstBad text bad.line
unfolding read_of
refused-first text bad few h =
    let stop = stops 1 [] (line_texts text) bad tt (omega (arith, length-line_texts-le text)) h in
    let k = stop.0 in
    let is = stop.1 in
    let all : is.more ≡ is.whole = sym is.accepted.all in
    let fit : All FitsItem is.whole = subst (All FitsItem) all is.accepted.fit in
    let lines : line_texts (trace_text is.whole is.end is.events) ≡ text_lines is.more is.whole is.end is.events =
    text-lines is.whole is.end is.events fit is.accepted.small is.accepted.few ∙ ap (λ m. text_lines m is.whole is.end is.events) (sym all) in
    let front : take k (line_texts (trace_text is.whole is.end is.events)) ≡ take k (line_texts text) = ap (take k) lines ∙ is.front in
    let place : k ≡ bad.line - 1 = omega (arith, is.line) in
    let next : bad.line ≡ suc k = omega (arith, is.line) in
    record {
      counted = omega (arith, is.line);
      within = omega (arith, is.line, is.within);
      before = (
        trace_text is.whole is.end is.events,
        told is.whole is.end is.events,
        record {
          printed = refl;
          accepted = record {
            fit = fit;
            in_order = subst (InOrder None) all is.accepted.in_order;
            enough = is.accepted.enough;
            events = is.accepted.small;
            few = is.accepted.few;
          };
        },
        subst (λ n. take n (line_texts (trace_text is.whole is.end is.events)) ≡ take n (line_texts text)) place front,
      );
      none = λ other t text_of same. no_both (read_of other) bad t
          (is.alike (line_texts other) (subst (λ n. take n (line_texts other) ≡ take n (line_texts text)) next same)) (read_of-text other t text_of);
    }

pub compared : (j k : ℕ) → (j < k) ⊎ ((k < j) ⊎ (j ≡ k))
compared j k = elim (eqb_tells j k) [
  | inl same ↦ inr (inr same.1)
  | inr other ↦ elim (leb_tells j k) [ inl low ↦ let apart : j ≢ k = other.1 in let at : j ≤ k = low.1 in inl (omega arith) | inr high ↦ inr (inl high.1) ]
]

-- a text has one first bad line at most
pub take_fewer : {A : Type 0} (m n : ℕ) (xs ys : List A) → m ≤ n → take n xs ≡ take n ys → take m xs ≡ take m ys
take_fewer m n xs ys few h = sym (take-take m n xs few) ∙ ap (take m) h ∙ take-take m n ys few

not_before : (text : List ℕ) (j k : ℕ) → IsFirstBad text j → IsFirstBad text k → j < k → ⊥
not_before text j k a b h =
    a.none b.before.0 b.before.1 b.before.2 (take_fewer j (k - 1) (line_texts b.before.0) (line_texts text) (omega arith) b.before.3)

pub first-one : (text : List ℕ) (j k : ℕ) → IsFirstBad text j → IsFirstBad text k → j ≡ k
first-one text j k a b =
    elim (compared j k) [
      | inl less ↦ absurd (not_before text j k a b less)
      | inr other ↦ elim other [ inl more ↦ absurd (not_before text k j b a more) | inr same ↦ same ]
    ]
