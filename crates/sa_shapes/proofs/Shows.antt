-- Each stretch shows what its track shows there, is constant, and ends in a change.
use Rattle.std.proofs.Common.{◌≡◌, ℕ, ◌+◌, ◌<◌, ◌≤◌, Bool, true, false, cond, List, [], ◌∷◌, ◌++◌, length, take, Option, Some, None, refl, sym, ap, subst, ◌∙◌, arith, append_assoc, inl, inr}
use Rattle.std.specs.Prelude.{nat_lt, slice_get}
use Rattle.std.proofs.lemmas.Bool.{ltb-true, cases_lt}
use Rattle.std.proofs.lemmas.List.{append-nil, length-append}
use Rattle.std.proofs.lemmas.Option.{slice_get_past}
use Rattle.std.proofs.Math.Seq.{take-append_seam}
use Rattle.sa_lemmas.proofs.ListUpdates.{slice_get-append_seam}
use Rattle.sa_base.specs.declared.record.Item.{Item}
use Rattle.sa_shapes.specs.declared.shape.Shape.{Shape}
use Rattle.sa_shapes.specs.declared.shape.Shape.TheVariants as shape
use Rattle.sa_shapes.specs.declared.shape.Shown.{Shown}
use Rattle.sa_shapes.specs.declared.shape.Track.{Track}
use Rattle.sa_shapes.specs.declared.stretches.Going.{Going}
use Rattle.sa_shapes.specs.declared.window.Window.{Window}
use Rattle.sa_shapes.specs.Window.{place}
use Rattle.sa_shapes.specs.Change.{change, start}
use Rattle.sa_shapes.specs.Stretches.{since, turned, closed, where_changed, stretches_from, stretches}
use Rattle.sa_shapes.specs.Laws.{turns_to, shown_from, shown_after, end_of, IsShown, IsConstant, EndsInChange, EachStretch}
use Rattle.sa_shapes.specs.declared.shape.Stretch.{Stretch}
use Rattle.sa_shapes.proofs.Changes.{change_differs}

-- one item more
shown-more : (t : Track) (v : Shown) (done : List Item) (i : Item)
    → shown_from t v (done ++ i ∷ []) ≡ turns_to (change t (shown_from t v done) i) (shown_from t v done)
shown-more t v [] i = refl
shown-more t v (j ∷ done) i = shown-more t (turns_to (change t v j) v) done i

past_seam : (done : List Item) (i : Item) (items : List Item) → take (length done + 1) (done ++ i ∷ items) ≡ done ++ i ∷ []
past_seam done i items =
    let whole : done ++ i ∷ items ≡ (done ++ i ∷ []) ++ items = sym (append_assoc done (i ∷ []) items) in
    let long : length done + 1 ≡ length (done ++ i ∷ []) = omega (arith, length-append done (i ∷ [])) in
    ap (take (length done + 1)) whole ∙ ap (λ (n : ℕ). take n ((done ++ i ∷ []) ++ items)) long ∙ take-append_seam (done ++ i ∷ []) items

-- what is weaker holds of each stretch too
each_weaker : (P Q : Stretch → Type 0) (shapes : List Shape) → ((s : Stretch) → P s → Q s) → EachStretch P shapes → EachStretch Q shapes
each_weaker P Q [] weaker each = tt
each_weaker P Q (shape.Stretch s ∷ rest) weaker each = (weaker s each.0, each_weaker P Q rest weaker each.1)
each_weaker P Q (shape.Mark m ∷ rest) weaker each = each

module _ (w : Window) (t : Track) (items : List Item) where
  -- what holds of a stretch
  record IsRight (s : Stretch) : Type 0 where
    shows : IsShown w items t s
    constant : IsConstant items t s
    ends : EndsInChange items t s

  abbrev closing : Going → ℕ → ℕ → Stretch
  closing o to last = record { track = t; from = o.from; to = to; shown = o.shown; first = o.first; last = last }

  right-closed : (o : Going) (to last : ℕ) (rest : List Shape) → (o.from < to → IsRight (closing o to last))
      → EachStretch IsRight rest → EachStretch IsRight (closed t o to last ++ rest)
  right-closed o to last rest is others =
      (elim (nat_lt o.from to) as (λ (b : Bool). b ≡ nat_lt o.from to
      → EachStretch IsRight (cond b (shape.Stretch (closing o to last) ∷ []) [] ++ rest)) [
        | true ↦ λ e. (is (ltb-true o.from to (sym e)), others)
        | false ↦ λ e. others
      ]) refl

  -- where the walk is: these items are done, and the open stretch shows what the track shows after each of them from its first on
  record Stands (done rest : List Item) (o : Going) (k : ℕ) : Type 0 where
    whole : items ≡ done ++ rest
    count : k ≡ length done
    shown : o.shown ≡ shown_after t done
    constant : (n : ℕ) → o.first < n → n ≤ k → shown_after t (take n items) ≡ o.shown

  front : (done rest : List Item) (o : Going) (k : ℕ) → Stands done rest o k → o.shown ≡ shown_after t (take k items)
  front done rest o k stands =
      stands.shown
      ∙ ap (shown_after t) (sym (take-append_seam done rest))
      ∙ ap (λ (l : List Item). shown_after t (take (length done) l)) (sym stands.whole)
      ∙ ap (λ (n : ℕ). shown_after t (take n items)) (sym stands.count)

  step-whole : (done : List Item) (i : Item) (rest : List Item) → items ≡ done ++ i ∷ rest → items ≡ (done ++ i ∷ []) ++ rest
  step-whole done i rest whole = whole ∙ sym (append_assoc done (i ∷ []) rest)

  step-count : (done : List Item) (i : Item) (k : ℕ) → k ≡ length done → k + 1 ≡ length (done ++ i ∷ [])
  step-count done i k count = omega (arith, length-append done (i ∷ []))

  -- what the track shows after one item more
  one_on : (done : List Item) (i : Item) (rest : List Item) (o : Going) (k : ℕ) (c : Option Shown) → Stands done (i ∷ rest) o k
      → c ≡ change t o.shown i → turns_to c o.shown ≡ shown_after t (done ++ i ∷ [])
  one_on done i rest o k c stands is =
      ap (λ (d : Option Shown). turns_to d o.shown) is ∙ ap (λ (v : Shown). turns_to (change t v i) v) stands.shown
      ∙ sym (shown-more t (start t) done i)

  next_on : (done : List Item) (i : Item) (rest : List Item) (o : Going) (k : ℕ) (c : Option Shown) → Stands done (i ∷ rest) o k
      → c ≡ change t o.shown i → shown_after t (take (k + 1) items) ≡ turns_to c o.shown
  next_on done i rest o k c stands is =
      ap (λ (l : List Item). shown_after t (take (k + 1) l)) stands.whole
      ∙ ap (λ (n : ℕ). shown_after t (take (n + 1) (done ++ i ∷ rest))) stands.count
      ∙ ap (shown_after t) (past_seam done i rest) ∙ sym (one_on done i rest o k c stands is)

  -- where nothing changes the stretch goes on, constant up to here
  on-constant : (o : Going) (k : ℕ) → ((n : ℕ) → o.first < n → n ≤ k → shown_after t (take n items) ≡ o.shown)
      → shown_after t (take (k + 1) items) ≡ o.shown → (n : ℕ) → o.first < n → n ≤ k + 1 → shown_after t (take n items) ≡ o.shown
  on-constant o k before here n above within =
      elim (cases_lt n (k + 1)) [
        | inl less ↦ before n above (omega arith)
        | inr behind ↦ let e : n ≡ k + 1 = omega arith in ap (λ (m : ℕ). shown_after t (take m items)) e ∙ here
      ]

  new-constant : (v : Shown) (k : ℕ) → shown_after t (take (k + 1) items) ≡ v → (n : ℕ) → k < n → n ≤ k + 1 → shown_after t (take n items) ≡ v
  new-constant v k here n above within = let e : n ≡ k + 1 = omega arith in ap (λ (m : ℕ). shown_after t (take m items)) e ∙ here

  shows-next : (done : List Item) (i : Item) (rest : List Item) (o : Going) (k : ℕ) (c : Option Shown) → Stands done (i ∷ rest) o k → c ≡ change t o.shown i
      → (Stands (done ++ i ∷ []) rest o (k + 1) → EachStretch IsRight (stretches_from w t o (k + 1) rest))
      → ((v : Shown) → Stands (done ++ i ∷ []) rest (record { from = turned w o i; shown = v; first = k }) (k + 1)
      → EachStretch IsRight (stretches_from w t (record { from = turned w o i; shown = v; first = k }) (k + 1) rest))
      → EachStretch IsRight (where_changed c (stretches_from w t o (k + 1) rest)
      (λ v. closed t o (turned w o i) k ++ stretches_from w t (record { from = turned w o i; shown = v; first = k }) (k + 1) rest))
  shows-next done i rest o k None stands is same other =
      same (record {
        whole = step-whole done i rest stands.whole;
        count = step-count done i k stands.count;
        shown = one_on done i rest o k None stands is;
        constant = on-constant o k stands.constant (next_on done i rest o k None stands is);
      })
  shows-next done i rest o k (Some v) stands is same other =
      let here : slice_get items k ≡ Some i = ap (λ (l : List Item). slice_get l k) stands.whole ∙ ap (slice_get (done ++ i ∷ rest)) stands.count
      ∙ slice_get-append_seam done rest i in
      let after : shown_after t (take (k + 1) items) ≡ v = next_on done i rest o k (Some v) stands is in
      right-closed o (turned w o i) k _
      (λ less. record {
        shows = record {
          track = refl;
          shown = front done (i ∷ rest) o k stands;
          end = (let e : turned w o i ≡ place w (since i) = omega arith in e) ∙ sym (ap (end_of w) here);
        };
        constant = stands.constant;
        ends = λ j there alike. change_differs t o.shown v i (sym is) (sym after ∙ alike);
      })
      (other v (record {
        whole = step-whole done i rest stands.whole;
        count = step-count done i k stands.count;
        shown = one_on done i rest o k (Some v) stands is;
        constant = new-constant v k after;
      }))

  right : (done rest : List Item) (o : Going) (k : ℕ) → Stands done rest o k → EachStretch IsRight (stretches_from w t o k rest)
  right done [] o k stands =
      let none : EachStretch IsRight [] = tt in
      let past : slice_get items k ≡ None =
      slice_get_past items k (omega (arith, stands.count, ap length stands.whole, length-append done [])) in
      subst (λ (l : List Shape). EachStretch IsRight l) (append-nil (closed t o w.count k))
      (right-closed o w.count k []
      (λ less. record {
        shows = record { track = refl; shown = front done [] o k stands; end = sym (ap (end_of w) past) };
        constant = stands.constant;
        ends = λ j there. let no : None ≡ Some j = sym past ∙ there in cc;
      }) none)
  right done (i ∷ rest) o k stands =
      shows-next done i rest o k (change t o.shown i) stands refl (λ next. right (done ++ i ∷ []) rest o (k + 1) next)
      (λ v next. right (done ++ i ∷ []) rest (record { from = turned w o i; shown = v; first = k }) (k + 1) next)

  all-right : EachStretch IsRight (stretches w items t)
  all-right = right [] items (record { from = 0; shown = start t; first = 0 }) 0
      (record { whole = refl; count = refl; shown = refl; constant = λ n above within. absurd (omega arith) })

  pub all-shown : EachStretch (IsShown w items t) (stretches w items t)
  all-shown = each_weaker IsRight (IsShown w items t) (stretches w items t) (λ s is. is.shows) all-right

  pub all-constant : EachStretch (IsConstant items t) (stretches w items t)
  all-constant = each_weaker IsRight (IsConstant items t) (stretches w items t) (λ s is. is.constant) all-right

  pub all-end : EachStretch (EndsInChange items t) (stretches w items t)
  all-end = each_weaker IsRight (EndsInChange items t) (stretches w items t) (λ s is. is.ends) all-right
