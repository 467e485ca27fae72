-- The text along the items that touch a track is that along all items.
use Rattle.std.proofs.Common.{◌≡◌, ℕ, ◌+◌, ◌-◌, ◌<◌, Bool, true, false, ◌&&◌, cond, List, [], ◌∷◌, ◌++◌, length, take, Option, inl, inr, refl, sym, ap, ◌∙◌, subst, append-nil, append_assoc, length-append, max, arith}
use Rattle.std.specs.Prelude.{nat_lt}
use Rattle.std.specs.List.{flat_map}
use Rattle.std.proofs.lemmas.Bool.{and_right, cases_Bool}
use Rattle.std.proofs.lemmas.Grind.{flat_map-append}
use Rattle.std.proofs.lemmas.List.{drop_at, take_at, flat_map_more}
use Rattle.sa_base.specs.declared.record.Item.{Item}
use Rattle.sa_svg.specs.Titles.{part}
use Rattle.sa_trace_events.specs.declared.track.Level.TheVariants.{Owner, Activation, Work}
use Rattle.sa_trace_events.specs.declared.track.Track.{Track}
use Rattle.sa_trace_events.specs.declared.track.Track.TheVariants as track
use Rattle.sa_trace_events.specs.declared.slices.Going.{Going}
use Rattle.sa_trace_events.specs.declared.slices.Slice.{Slice}
use Rattle.sa_trace_events.specs.declared.slices.Span.{Span}
use Rattle.sa_trace_events.specs.declared.slices.State.{State}
use Rattle.sa_trace_events.specs.declared.touches.Index.{Index}
use Rattle.sa_trace_events.specs.declared.touches.Touch.{Touch}
use Rattle.sa_trace_events.specs.Slices.{start, after, same_state, is_shown, since, slice_begun, going_by, closed, closed_unless, slices_from}
use Rattle.sa_trace_events.specs.Events.{line_if, rest_text, lines_text, slice_text, track_text}
use Rattle.sa_trace_events.specs.Json.{quoted}
use Rattle.sa_trace_events.specs.Touches.{group_of, number_of, on_after, touches, since_in, clock_after, clock_from, touch_of, touched_from, touched, nobody, IsIndexOf, touches_at}
use Rattle.sa_trace_events.specs.Along.{slice_by, closed_text, text_unless, lines_after, text_from}
use Rattle.sa_trace_events.proofs.Itself.{itself}
use Rattle.sa_trace_events.proofs.Touched.{Fits, fits-start, fits-after, passes}
use Rattle.sa_trace_events.proofs.Lists.{found}

-- CLOCKS. The tracks of a kind are at one event.
since-is : (t : Track) (i : Item) → since_in (group_of t) i ≡ since t i
since-is (track.Processor p level) i = refl
since-is (track.Thread s t) i = refl
since-is (track.Lock s l) i = refl
since-is (track.Count s c) i = refl

-- LINES. Those of a slice, which has seen these items.
abbrev Told : Track → List Item → List ℕ → Type 0
Told t [] lines = ⊥
Told t (h ∷ seen) lines = lines ≡ lines_text t (h ∷ seen)

told-more : (t : Track) (seen : List Item) (lines : List ℕ) (i : Item) → Told t seen lines → Told t (seen ++ i ∷ []) (lines ++ line_if t i)
told-more t [] lines i told = absurd told
told-more t (h ∷ seen) lines i told =
    ap (λ (text : List ℕ). text ++ line_if t i) told ∙ append_assoc (quoted h) (rest_text t seen) (line_if t i)
    ∙ ap (λ (text : List ℕ). quoted h ++ text) (flat_map_more (line_if t) [] seen i)

told-passed : (t : Track) (seen : List Item) (lines : List ℕ) (i : Item) → line_if t i ≡ [] → Told t seen lines → Told t (seen ++ i ∷ []) lines
told-passed t seen lines i none told =
    subst (λ (text : List ℕ). Told t (seen ++ i ∷ []) text) (ap (λ (line : List ℕ). lines ++ line) none ∙ append-nil lines)
    (told-more t seen lines i told)

told-begun : (t : Track) (i : Item) → Told t (i ∷ []) (quoted i)
told-begun t i = sym (append-nil (quoted i))

told-is : (t : Track) (seen : List Item) (lines : List ℕ) → Told t seen lines → lines ≡ lines_text t seen
told-is t [] lines told = absurd told
told-is t (h ∷ seen) lines told = told

part-is : (pre seen rest : List Item) (first last : ℕ) → first ≡ length pre → last ≡ length pre + length seen
    → part (pre ++ (seen ++ rest)) first last ≡ seen
part-is pre seen rest first last is_first is_last =
    let count : length seen ≡ last - first = omega arith in
    ap (λ (xs : List Item). take (last - first) xs) (drop_at pre (seen ++ rest) first (sym is_first)) ∙ take_at seen rest (last - first) count

-- SLICES. A slice has the lines of its items.
lined : (items : List Item) (t : Track) (from to first last last-2 : ℕ) (shown : State) (lines : List ℕ)
    → lines ≡ lines_text t (part items first last)
    → slice_by (record { track = t; from = from; to = to; shown = shown; first = first; last = last-2 }) lines
    ≡ slice_text items (record { track = t; from = from; to = to; shown = shown; first = first; last = last }) ++ []
unfolding slice_by slice_text
lined items t from to first last last-2 shown lines is =
    ap (λ (text : List ℕ). slice_by (record { track = t; from = from; to = to; shown = shown; first = first; last = last }) text) is
    ∙ sym (append-nil (slice_text items (record { track = t; from = from; to = to; shown = shown; first = first; last = last })))

abbrev going : ℕ → ℕ → State → State → ℕ → Going
going from clock shown v first = record { from = from; clock = clock; shown = shown; state = v; first = first }

-- what is known where these items were seen since the slice began, and these come next
record Known (t : Track) (items pre seen is : List Item) (k first : ℕ) (shown v : State) (lines : List ℕ) (on : ℕ → Option ℕ) : Type 0 where
  all : items ≡ pre ++ (seen ++ is)
  begun : first ≡ length pre
  at : k ≡ length pre + length seen
  same : same_state t shown v ≡ true
  fits : Fits t v on
  told : is_shown t shown ≡ true → Told t seen lines

module _ (t : Track) (items : List Item) (end len : ℕ) where
  abbrev Texts : List Slice → List ℕ
  Texts list = flat_map (slice_text items) list

  abbrev Own : (ℕ → Option ℕ) → ℕ → ℕ → List Item → List Touch
  Own on clock k is = touched_from (group_of t) (number_of t) on clock k is

  closed-is : (pre seen is : List Item) (k first : ℕ) (shown v : State) (lines : List ℕ) (on : ℕ → Option ℕ) (from clock clock-2 to last : ℕ)
      → Known t items pre seen is k first shown v lines on
      → closed_text t (going from clock shown v first) to last lines ≡ Texts (closed t (going from clock-2 shown v first) to k)
  closed-is pre seen is k first shown v lines on from clock clock-2 to last known =
      (elim (cases_Bool (is_shown t shown)) [
        | inl shows ↦
            let part_is : part items first k ≡ seen =
            ap (λ (xs : List Item). part xs first k) known.all ∙ part-is pre seen is first k known.begun known.at in
            let lines_is : lines ≡ lines_text t (part items first k) =
            told-is t seen lines (known.told shows) ∙ ap (lines_text t) (sym part_is) in
            (elim (nat_lt from to && is_shown t shown)
            as (λ (b : Bool). cond b (slice_by (record { track = t; from = from; to = to; shown = shown; first = first; last = last }) lines) []
            ≡ Texts (cond b (record { track = t; from = from; to = to; shown = shown; first = first; last = k } ∷ []) [])) [
              | true ↦ lined items t from to first k last shown lines lines_is
              | false ↦ refl
            ])
        | inr unshown ↦
            let off : (nat_lt from to && is_shown t shown) ≡ false = and_right (nat_lt from to) (is_shown t shown) unshown in
            ap (λ (b : Bool). cond b (slice_by (record { track = t; from = from; to = to; shown = shown; first = first; last = last }) lines) []) off
            ∙ sym (ap (λ (b : Bool). Texts (cond b (record { track = t; from = from; to = to; shown = shown; first = first; last = k } ∷ []) [])) off)
      ])

  -- what is written from an item on, where the track goes on to show the same after it and where it does not: along all items, and along its own
  abbrev FromAll : Bool → State → ℕ → State → State → ℕ → ℕ → ℕ → List Item → ℕ → List ℕ
  FromAll same next from shown v clock first k is clock-2 =
      Texts (closed_unless same t (going from clock shown v first) clock-2 k
      ++ slices_from t end (going_by same (going from clock shown v first) next clock-2 k) (k + 1) is)

  abbrev FromOwn : Bool → State → ℕ → State → State → ℕ → ℕ → ℕ → List Item → ℕ → ℕ → Item → List ℕ → (ℕ → Option ℕ) → List ℕ
  FromOwn same next from shown v clock first k is clock-2 last i lines on =
      text_unless same t (going from clock shown v first) (record { at = k; clock = clock-2; item = i }) lines
      ++ text_from t last len (going_by same (going from clock shown v first) next clock-2 k) (lines_after same t i lines) (Own on clock-2 (k + 1) is)

  -- the text along all of these items
  abbrev Holds : List Item → Type 0
  Holds is =
      (pre seen : List Item) (k first : ℕ) (shown v : State) (lines : List ℕ) (on : ℕ → Option ℕ) (from clock clock-2 : ℕ)
      → Known t items pre seen is k first shown v lines on
      → text_from t (max (clock_from (group_of t) clock is) end) len (going from clock-2 shown v first) lines (Own on clock k is)
      ≡ Texts (slices_from t end (going from clock shown v first) k is)

  seen-more : (pre seen is : List Item) (i : Item) (k : ℕ) → items ≡ pre ++ (seen ++ i ∷ is) → k ≡ length pre + length seen
      → (items ≡ pre ++ ((seen ++ i ∷ []) ++ is)) × (k + 1 ≡ length pre + length (seen ++ i ∷ []))
  seen-more pre seen is i k all at =
      (all ∙ ap (λ (xs : List Item). pre ++ xs) (sym (append_assoc seen (i ∷ []) is)), omega (arith, length-append seen (i ∷ [])))

  -- an item that touches the track
  visited : (i : Item) (is pre seen : List Item) (k first : ℕ) (shown v : State) (lines : List ℕ) (on : ℕ → Option ℕ) (from clock clock-2 : ℕ)
      (same : Bool) → Known t items pre seen (i ∷ is) k first shown v lines on → same_state t shown (after t v i) ≡ same → Holds is
      → FromOwn same (after t v i) from shown v clock-2 first k is (clock_after (group_of t) clock i)
      (max (clock_from (group_of t) (clock_after (group_of t) clock i) is) end) i lines (on_after (group_of t) on i)
      ≡ FromAll same (after t v i) from shown v clock first k is (clock_after (group_of t) clock i)
  visited i is pre seen k first shown v lines on from clock clock-2 true known same again =
      let more = seen-more pre seen is i k known.all known.at in
      again pre (seen ++ i ∷ []) (k + 1) first shown (after t v i) (lines ++ line_if t i) (on_after (group_of t) on i) from
      (clock_after (group_of t) clock i) (clock_after (group_of t) clock i)
      (record {
        all = more.0;
        begun = known.begun;
        at = more.1;
        same = same;
        fits = fits-after t v on i known.fits;
        told = λ shows. told-more t seen lines i (known.told shows);
      })
  visited i is pre seen k first shown v lines on from clock clock-2 false known same again =
      let G = group_of t in
      let to = clock_after G clock i in
      let next = after t v i in
      let one : List Item = i ∷ [] in
      let rest = slices_from t end (going to to next next k) (k + 1) is in
      let tail = again (pre ++ seen) one (k + 1) k next next (quoted i) (on_after G on i) to to to
      (record {
        all = known.all ∙ sym (append_assoc pre seen (i ∷ is));
        begun = known.at ∙ sym (length-append pre seen);
        at = (let e : k + 1 ≡ length (pre ++ seen) + 1 = omega (arith, known.at, length-append pre seen) in e);
        same = itself t next;
        fits = fits-after t v on i known.fits;
        told = λ shows. told-begun t i;
      }) in
      ap (λ (text : List ℕ). text ++ text_from t (max (clock_from G to is) end) len (going to to next next k) (quoted i) (Own (on_after G on i) to (k + 1) is))
      (closed-is pre seen (i ∷ is) k first shown v lines on from clock-2 clock to k known)
      ∙ ap (λ (text : List ℕ). Texts (closed t (going from clock shown v first) to k) ++ text) tail
      ∙ sym (flat_map-append (slice_text items) (closed t (going from clock shown v first) to k) rest)

  -- one that does not
  passed : (i : Item) (is pre seen : List Item) (k first : ℕ) (shown v : State) (lines : List ℕ) (on : ℕ → Option ℕ) (from clock clock-2 : ℕ)
      → Known t items pre seen (i ∷ is) k first shown v lines on → touches (group_of t) (number_of t) on i ≡ false → Holds is
      → text_from t (max (clock_from (group_of t) (clock_after (group_of t) clock i) is) end) len (going from clock-2 shown v first) lines
      (Own (on_after (group_of t) on i) (clock_after (group_of t) clock i) (k + 1) is)
      ≡ FromAll (same_state t shown (after t v i)) (after t v i) from shown v clock first k is (clock_after (group_of t) clock i)
  passed i is pre seen k first shown v lines on from clock clock-2 known off again =
      let G = group_of t in
      let to = clock_after G clock i in
      let more = seen-more pre seen is i k known.all known.at in
      let pass = passes t v on i known.fits off in
      let still : Fits t v (on_after G on i) = subst (λ (w : State). Fits t w (on_after G on i)) pass.state (fits-after t v on i known.fits) in
      again pre (seen ++ i ∷ []) (k + 1) first shown v lines (on_after G on i) from to clock-2
      (record {
        all = more.0;
        begun = known.begun;
        at = more.1;
        same = known.same;
        fits = still;
        told = λ shows. told-passed t seen lines i pass.line (known.told shows);
      })
      ∙ ap (λ (b : Bool). FromAll b v from shown v clock first k is to) (sym known.same)
      ∙ ap (λ (w : State). FromAll (same_state t shown w) w from shown v clock first k is to) (sym pass.state)

  along-all : (is : List Item) → Holds is
  along-all [] pre seen k first shown v lines on from clock clock-2 known =
      closed-is pre seen [] k first shown v lines on from clock-2 clock (max clock end) len known
  along-all (i ∷ is) pre seen k first shown v lines on from clock clock-2 known =
      step (touches (group_of t) (number_of t) on i) refl (along-all is)
    where
      step : (b : Bool) → touches (group_of t) (number_of t) on i ≡ b → Holds is
          → text_from t (max (clock_from (group_of t) (clock_after (group_of t) clock i) is) end) len (going from clock-2 shown v first) lines
          ((cond b (touch_of (group_of t) clock k i ∷ []) []) ++ Own (on_after (group_of t) on i) (clock_after (group_of t) clock i) (k + 1) is)
          ≡ Texts (slices_from t end (going from clock shown v first) k (i ∷ is))
      step true touch again =
          visited i is pre seen k first shown v lines on from clock clock-2 (same_state t shown (after t v i)) known refl again
          ∙ ap (λ (s : ℕ). FromAll (same_state t shown (after t v i)) (after t v i) from shown v clock first k is (max clock s)) (since-is t i)
      step false touch again =
          passed i is pre seen k first shown v lines on from clock clock-2 known touch again
          ∙ ap (λ (s : ℕ). FromAll (same_state t shown (after t v i)) (after t v i) from shown v clock first k is (max clock s)) (since-is t i)

start-unshown : (t : Track) → is_shown t (start t) ≡ true → ⊥
start-unshown (track.Processor p Owner) shows = cc
start-unshown (track.Processor p Activation) shows = cc
start-unshown (track.Processor p Work) shows = cc
start-unshown (track.Thread s t) shows = cc
start-unshown (track.Lock s l) shows = cc
start-unshown (track.Count s c) shows = cc

-- the text of a track
pub along : (span : Span) (items : List Item) (t : Track) (index : Index) → IsIndexOf (group_of t) span.begin items index
    → number_of t < length index.lists.items
    → text_from t (max index.clock span.end) (length items) (slice_begun t span.begin) [] (touches_at index (number_of t)) ≡ track_text span items t
along span items t index is within =
    ap (λ (list : List Touch). text_from t (max index.clock span.end) (length items) (slice_begun t span.begin) [] list)
    (found (group_of t) span.begin items index (number_of t) is within)
    ∙ ap (λ (clock : ℕ). text_from t (max clock span.end) (length items) (slice_begun t span.begin) [] (touched (group_of t) (number_of t) span.begin items)) is.clock
    ∙ along-all t items span.end (length items) items [] [] 0 0 (start t) (start t) [] nobody span.begin span.begin span.begin
    (record {
      all = refl;
      begun = refl;
      at = refl;
      same = itself t (start t);
      fits = fits-start t;
      told = λ shows. absurd (start-unshown t shows);
    })
