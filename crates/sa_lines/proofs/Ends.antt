-- The making, the splits, the joins and the close keep the rule.
use Rattle.std.proofs.Common.{◌≡◌, ◌≢◌, ℕ, zero, suc, ◌*◌, ◌<◌, ◌≤◌, ◌==◌, List, [], ◌∷◌, ◌++◌, length, replicate, slice_index, slice_set, All, MatchOption, ◌⊎◌, inl, inr, refl, sym, ◌∙◌, ap, subst, arith, Option, Some, None}
use Rattle.std.proofs.lemmas.List.{length-replicate}
use mathlib.Core.Option.{some, some-injective, some-ne-none}
use mathlib.Core.Logic.{dite}
use native.Mathlib.Decide.{ℕ_discrete}
use lib.ListN.{get_elem?}
use Rattle.atomic_table.specs.Table.{State, opening, Splits, Joins, Final, Seen}
use Rattle.atomic_table.proofs.Lists.{at_set, set_else, at_longer}
use Rattle.sa_base.specs.declared.number.ProcNo.{ProcNo}
use Rattle.sa_lines.specs.declared.view.Lane.{Lane}
use Rattle.sa_lines.specs.declared.view.Polled.{Polled}
use Rattle.sa_lines.specs.declared.view.View.{View}
use Rattle.sa_lines.specs.declared.view.View.TheVariants.{Keeping, Polling, Spent}
use Rattle.sa_lines.specs.Words.{line_word, credit_word, lane_at, changed, fresh_lane, fresh_polled, first_view, IsLineOf, Agree, AgreeAt, IsKeeping, lanes_of, Knows, FitsWords, Holds}
use Rattle.sa_lines.specs.Steps.{left_view, right_view, joined_with, joined_view, spent_view}
use Rattle.sa_lines.specs.Seen.{IsSettled, IsPollerOf}
use Rattle.sa_lines.proofs.Agreeing.{agree_joined, same_account}
use Rattle.sa_lines.proofs.Steps.{lane_here, lane_else, length_changed, set_at}

-- the making

lane_fresh : (n q : ℕ) → lane_at (replicate n fresh_lane) q ≡ fresh_lane
lane_fresh (suc n) (suc q) = lane_fresh n q
lane_fresh _ _ = refl

module _ (words : List ℕ) (n : ℕ) (size : length words ≡ 2 * n) (zeros : (i : ℕ) → slice_index words i ≡ 0) where
  fresh_agree : (p : ℕ) → AgreeAt words p fresh_lane fresh_polled
  fresh_agree p =
      subst (λ z. Agree z (slice_index words (credit_word p)) fresh_lane fresh_polled) (sym (zeros (line_word p)))
      (subst (λ z. Agree 0 z fresh_lane fresh_polled) (sym (zeros (credit_word p)))
      record { stored = refl; raised = inl refl; polled = λ k d lt. absurd (omega (arith, lt)); balanced = refl; counted = omega arith })

  knows_fresh : (p : ℕ) (b : Polled) → Knows (first_view n) p b → b ≡ fresh_polled
  knows_fresh p b k = elim k [ inl z ↦ z.1 | inr z ↦ absurd (let y : None ≡ Some b = sym (ap (λ (l : Lane). l.joined) (lane_fresh n p)) ∙ z in cc) ]

  first_place : (i : ℕ) (v : View) → get_elem? (first_view n ∷ []) i ≡ some v → (i ≡ 0) × (first_view n ≡ v)
  first_place zero v e = (refl, some-injective (first_view n) v e)
  first_place (suc i) v e = absurd (some-ne-none v (sym e))

  pub opens : {S : Type 0} → Holds {S = S} (opening words [] (first_view n))
  opens = record {
    keeper = (0, first_view n, refl, tt);
    one_keeper = λ i j v w a b kv kw. (first_place i v a).0 ∙ sym (first_place j w b).0;
    one_poller = λ i j p v w c d a b kv kw. (first_place i v a).0 ∙ sym (first_place j w b).0;
    fits = λ i k a kk. subst (FitsWords words) (first_place i k a).1 record {
      size = size ∙ ap (λ (z : ℕ). 2 * z) (sym (length-replicate n fresh_lane));
      unsplit = λ p le. ap (λ (l : Lane). l.joined) (lane_fresh n p);
    };
    agree = λ i j p k v b a c kk kv lt. subst (λ z. AgreeAt words p (lane_at (lanes_of z) p) b) (first_place i k a).1
        (subst (λ l. AgreeAt words p l b) (sym (lane_fresh n p))
        (subst (AgreeAt words p fresh_lane) (sym (knows_fresh p b (subst (λ z. Knows z p b) (sym (first_place j v c).1) kv))) (fresh_agree p)));
  }

-- a split

at_more : {A : Type 0} (l : List A) (a b : A) (j : ℕ) → get_elem? (l ++ a ∷ []) j ≡ some b → (get_elem? l j ≡ some b) ⊎ ((a ≡ b) × (j ≡ length l))
at_more [] a b zero e = inr (some-injective a b e, refl)
at_more [] a b (suc j) e = absurd (some-ne-none b (sym e))
at_more (x ∷ xs) a b zero e = inl e
at_more (x ∷ xs) a b (suc j) e = elim (at_more xs a b j e) [ inl p ↦ inl p | inr p ↦ inr (p.0, ap suc p.1) ]

module _ {S : Type 0} (s : State S View) (id : ℕ) (lanes : List Lane) (n : ℕ) (h : Holds s) (is : get_elem? s.views id ≡ some (Keeping lanes n)) where
  abbrev pub whole : View
  whole = Keeping lanes n

  abbrev pub cut : List View
  cut = slice_set s.views id (left_view whole)

  -- a view after the cut: the keeper's, one that was there, or the new poller's
  data Entry (j : ℕ) (x : View) : Type 0 where
    left_one : j ≡ id → left_view whole ≡ x → Entry j x
    old_one : j ≢ id → get_elem? s.views j ≡ some x → Entry j x
    right_one : j ≡ length cut → right_view whole ≡ x → Entry j x

  entry : (j : ℕ) (x : View) → get_elem? (cut ++ right_view whole ∷ []) j ≡ some x → Entry j x
  entry j x e = elim (at_more cut (right_view whole) x j e) [
    | inl p ↦ elim (at_set s.views id j (left_view whole) x p) [ inl q ↦ left_one q.0 q.1 | inr q ↦ old_one q.0 q.1 ]
    | inr p ↦ right_one p.1 p.0
  ]

  -- the keeper is where it was
  keeper_is : (j : ℕ) (x : View) → Entry j x → IsKeeping x → (j ≡ id) × (left_view whole ≡ x)
  keeper_is j x (left_one a b) k = (a, b)
  keeper_is j x (old_one a b) k = absurd (a (h.one_keeper j id x whole b is k tt))
  keeper_is j x (right_one a b) k = absurd (subst IsKeeping (sym b) k)

  less : (q : ℕ) (b : Polled) → Knows (left_view whole) q b → Knows whole q b
  less q b k = elim k [ inl z ↦ (let le = z.0 in inl (omega (arith, le), z.1)) | inr z ↦ inr z ]

  -- what is known after the cut was known before
  knew : (j q : ℕ) (x : View) (b : Polled) → Entry j x → Knows x q b → (i : ℕ) × (y : View) × (get_elem? s.views i ≡ some y) × Knows y q b
  knew j q x b (left_one a e) k = (id, whole, is, less q b (subst (λ z. Knows z q b) (sym e) k))
  knew j q x b (old_one a e) k = (j, x, e, k)
  knew j q x b (right_one a e) k = (let y = subst (λ z. Knows z q b) (sym e) k in (let le = y.0 in (id, whole, is, inl (omega (arith, le), sym y.1))))

  -- the poller that was split off has a place of its own
  new_place : (j q : ℕ) (x : View) (b : Polled) → Entry j x → Knows x q b → n ≡ q → j ≡ length cut
  new_place j q x b (left_one a e) k z =
      let y = subst (λ w. Knows w q b) (sym e) k in
      let none_joined = (h.fits id whole is tt).unsplit q (omega (arith, z)) in
      absurd (elim y [ inl w ↦ (let le = w.0 in omega (arith, le, z)) | inr w ↦ (let u : None ≡ Some b = sym none_joined ∙ w in cc) ])
  new_place j q x b (old_one a e) k z = absurd (a (h.one_poller j id q x whole b fresh_polled e is k (inl (omega (arith, z), refl))))
  new_place j q x b (right_one a e) k z = a

  old_place : (j q : ℕ) (x : View) (b : Polled) → Entry j x → Knows x q b → n ≢ q → (y : View) × (get_elem? s.views j ≡ some y) × Knows y q b
  old_place j q x b (left_one a e) k ne = (whole, subst (λ i. get_elem? s.views i ≡ some whole) (sym a) is, less q b (subst (λ w. Knows w q b) (sym e) k))
  old_place j q x b (old_one a e) k ne = (x, e, k)
  old_place j q x b (right_one a e) k ne = absurd (ne (subst (λ w. Knows w q b) (sym e) k).0)

  split_holds : Holds record { words = s.words; homes = s.homes; views = cut ++ right_view whole ∷ [] }
  split_holds = record {
    keeper = (id, left_view whole, at_longer cut (right_view whole ∷ []) id (left_view whole) (set_at s.views id whole (left_view whole) is), tt);
    one_keeper = λ i j x y a b kx ky. (keeper_is i x (entry i x a) kx).0 ∙ sym (keeper_is j y (entry j y b) ky).0;
    one_poller = λ i j q x y c d a b kx ky. dite (ℕ_discrete n q)
        (λ e. new_place i q x c (entry i x a) kx e ∙ sym (new_place j q y d (entry j y b) ky e))
        (λ ne.
        let o = old_place i q x c (entry i x a) kx ne in
        let u = old_place j q y d (entry j y b) ky ne in
        h.one_poller i j q o.0 u.0 c d o.1 u.1 o.2 u.2);
    fits = λ i k a kk. subst (FitsWords s.words) (keeper_is i k (entry i k a) kk).1
        (let fit = h.fits id whole is tt in record { size = fit.size; unsplit = λ q le. fit.unsplit q (omega (arith, le)) });
    agree = λ i j q k y b a c kk ky lt.
        let same = (keeper_is i k (entry i k a) kk).1 in
        let o = knew j q y b (entry j y c) ky in
        subst (λ z. AgreeAt s.words q (lane_at (lanes_of z) q) b) same
        (h.agree id o.0 q whole o.1 b is o.2 tt o.3 (subst (λ z. q < length (lanes_of z)) (sym same) lt));
  }

pub splits : {S : Type 0} (id : ℕ) (lanes : List Lane) (n : ℕ)
    → Splits {S = S} Holds id (Keeping lanes n) (left_view (Keeping lanes n)) (right_view (Keeping lanes n))
splits id lanes n = λ s h is. split_holds s id lanes n h is

-- a join

some_same : (a b : Polled) → Some a ≡ Some b → a ≡ b
some_same a b e = cc

module _ {S : Type 0} (s : State S View) (id other : ℕ) (lanes : List Lane) (n : ℕ) (p : ProcNo) (own : Polled) (h : Holds s)
    (is : get_elem? s.views id ≡ some (Keeping lanes n)) (is' : get_elem? s.views other ≡ some (Polling p own)) (apart : other ≢ id)
    (inside : p.0 < length lanes) where
  abbrev pub keeping : View
  keeping = Keeping lanes n

  abbrev pub polling : View
  polling = Polling p own

  abbrev pub both : View
  both = joined_view keeping polling

  abbrev pub joined_views : List View
  joined_views = slice_set (slice_set s.views id both) other spent_view

  -- a view after the join: the spent poller's, the keeper's, or one that was there
  data Joined (j : ℕ) (x : View) : Type 0 where
    spent_one : spent_view ≡ x → Joined j x
    both_one : j ≡ id → both ≡ x → Joined j x
    other_one : j ≢ id → j ≢ other → get_elem? s.views j ≡ some x → Joined j x

  joined : (j : ℕ) (x : View) → get_elem? joined_views j ≡ some x → Joined j x
  joined j x e = elim (at_set (slice_set s.views id both) other j spent_view x e) [
    | inl z ↦ spent_one z.1
    | inr z ↦ elim (at_set s.views id j both x z.1) [ inl q ↦ both_one q.0 q.1 | inr q ↦ other_one q.0 z.0 q.1 ]
  ]

  one_is : (j : ℕ) (x : View) → Joined j x → IsKeeping x → (j ≡ id) × (both ≡ x)
  one_is j x (spent_one e) k = absurd (subst IsKeeping (sym e) k)
  one_is j x (both_one a e) k = (a, e)
  one_is j x (other_one a b e) k = absurd (a (h.one_keeper j id x keeping e is k tt))

  -- what the keeper knows now, it or the poller knew
  both_knew : (q : ℕ) (b : Polled) → Knows both q b → (Knows keeping q b × (q ≢ p.0)) ⊎ Knows polling q b
  both_knew q b k = dite (ℕ_discrete q p.0)
      (λ e. elim k [
        | inl z ↦ absurd (apart (h.one_poller other id q polling keeping own fresh_polled is' is (sym e, refl) (inl (z.0, refl))))
        | inr z ↦ (let now = sym (ap (λ (l : Lane). l.joined) (lane_here p.0 (joined_with own) lanes inside))
            ∙ ap (λ (i : ℕ). (lane_at (changed p.0 (joined_with own) lanes) i).joined) (sym e) ∙ z in inr (sym e, some_same own b now))
      ])
      (λ ne. elim k [
        | inl z ↦ inl (inl z, ne)
        | inr z ↦ inl (inr (sym (ap (λ (l : Lane). l.joined) (lane_else p.0 q (joined_with own) lanes ne)) ∙ z), ne)
      ])

  knew_it : (j q : ℕ) (x : View) (b : Polled) → Joined j x → Knows x q b → (i : ℕ) × (y : View) × (get_elem? s.views i ≡ some y) × Knows y q b
  knew_it j q x b (spent_one e) k = absurd (subst (λ z. Knows z q b) (sym e) k)
  knew_it j q x b (both_one a e) k =
      elim (both_knew q b (subst (λ z. Knows z q b) (sym e) k)) [ inl z ↦ (id, keeping, is, z.0) | inr z ↦ (other, polling, is', z) ]
  knew_it j q x b (other_one a c e) k = (j, x, e, k)

  -- no other view knows what the keeper knows now
  no_other : (j q : ℕ) (x : View) (a b : Polled) → j ≢ id → j ≢ other → get_elem? s.views j ≡ some x → Knows x q a → Knows both q b → ⊥
  no_other j q x a b not_id not_other at_j k kb = elim (both_knew q b kb) [
    | inl z ↦ not_id (h.one_poller j id q x keeping a b at_j is k z.0)
    | inr z ↦ not_other (h.one_poller j other q x polling a b at_j is' k z)
  ]

  one_place : (i j q : ℕ) (x y : View) (c d : Polled) → Joined i x → Joined j y → Knows x q c → Knows y q d → i ≡ j
  one_place i j q x y c d (spent_one e) b kx ky = absurd (subst (λ z. Knows z q c) (sym e) kx)
  one_place i j q x y c d a (spent_one e) kx ky = absurd (subst (λ z. Knows z q d) (sym e) ky)
  one_place i j q x y c d (both_one a e) (both_one b f) kx ky = a ∙ sym b
  one_place i j q x y c d (both_one a e) (other_one b f g) kx ky = absurd (no_other j q y d c b f g ky (subst (λ z. Knows z q c) (sym e) kx))
  one_place i j q x y c d (other_one b f g) (both_one a e) kx ky = absurd (no_other i q x c d b f g kx (subst (λ z. Knows z q d) (sym e) ky))
  one_place i j q x y c d (other_one a e g) (other_one b f k) kx ky = h.one_poller i j q x y c d g k kx ky

  joined_agree : (q : ℕ) (b : Polled) → AgreeAt s.words q (lane_at lanes q) b → AgreeAt s.words q (lane_at (changed p.0 (joined_with own) lanes) q) b
  joined_agree q b a = dite (ℕ_discrete q p.0)
      (λ e. subst (λ i. AgreeAt s.words i (lane_at (changed p.0 (joined_with own) lanes) i) b) (sym e)
      (subst (λ l. AgreeAt s.words p.0 l b) (sym (lane_here p.0 (joined_with own) lanes inside))
      (agree_joined (slice_index s.words (line_word p.0)) (slice_index s.words (credit_word p.0)) own (lane_at lanes p.0) b
      (subst (λ i. AgreeAt s.words i (lane_at lanes i) b) e a))))
      (λ ne. subst (λ l. AgreeAt s.words q l b) (sym (lane_else p.0 q (joined_with own) lanes ne)) a)

  -- the poller that is joined was split off
  was_split : (q : ℕ) → n ≤ q → q ≢ p.0
  was_split q le e = apart (h.one_poller other id q polling keeping own fresh_polled is' is (sym e, refl) (inl (le, refl)))

  join_holds : Holds record { words = s.words; homes = s.homes; views = joined_views }
  join_holds = record {
    keeper = (id, both, set_else (slice_set s.views id both) other id spent_view (λ e. apart (sym e)) ∙ set_at s.views id keeping both is, tt);
    one_keeper = λ i j x y a b kx ky. (one_is i x (joined i x a) kx).0 ∙ sym (one_is j y (joined j y b) ky).0;
    one_poller = λ i j q x y c d a b kx ky. one_place i j q x y c d (joined i x a) (joined j y b) kx ky;
    fits = λ i k a kk. subst (FitsWords s.words) (one_is i k (joined i k a) kk).1
        (let fit = h.fits id keeping is tt in record {
          size = fit.size ∙ ap (λ (z : ℕ). 2 * z) (sym (length_changed p.0 (joined_with own) lanes));
          unsplit = λ q le. ap (λ (l : Lane). l.joined) (lane_else p.0 q (joined_with own) lanes (was_split q le)) ∙ fit.unsplit q le;
        });
    agree = λ i j q k y b a c kk ky lt.
        let same = (one_is i k (joined i k a) kk).1 in
        let o = knew_it j q y b (joined j y c) ky in
        let lt' : q < length lanes = subst (λ z. q < z) (length_changed p.0 (joined_with own) lanes) (subst (λ z. q < length (lanes_of z)) (sym same) lt) in
        subst (λ z. AgreeAt s.words q (lane_at (lanes_of z) q) b) same (joined_agree q b (h.agree id o.0 q keeping o.1 b is o.2 tt o.3 lt'));
  }

joins_there : {S : Type 0} (id other : ℕ) (lanes : List Lane) (n : ℕ) (p : ProcNo) (own : Polled) → p.0 < length lanes
    → Joins {S = S} Holds id (Keeping lanes n) other (Polling p own) (joined_view (Keeping lanes n) (Polling p own)) spent_view
joins_there id other lanes n p own inside =
    λ s h is ne there. elim (at_set s.views id other (joined_view (Keeping lanes n) (Polling p own)) (Polling p own) there) [
      | inl z ↦ absurd (ne z.0)
      | inr z ↦ join_holds s id other lanes n p own h is z.1 ne inside
    ]

pub joins : {S : Type 0} (id other : ℕ) (v w : View) (p : ℕ) → IsKeeping v → IsPollerOf w p → p < length (lanes_of v)
    → Joins {S = S} Holds id v other w (joined_view v w) spent_view
joins id other (Keeping lanes n) (Keeping others m) p k l lt = absurd l
joins id other (Keeping lanes n) Spent p k l lt = absurd l
joins id other (Keeping lanes n) (Polling q own) p k l lt = joins_there id other lanes n q own (subst (λ z. z < length lanes) (sym l) lt)
joins id other _ w p k l lt = absurd k

-- the close

known : (v : View) (p : ℕ) (b : Polled) → IsKeeping v → (lane_at (lanes_of v) p).joined ≡ Some b → Knows v p b
known (Keeping lanes n) p b k e = inr e
known _ p b k e = absurd k

settles : (words : List ℕ) (p : ℕ) (l : Lane) (o : Option Polled) → l.handed ≡ None → ((b : Polled) → o ≡ Some b → AgreeAt words p l b)
    → MatchOption o (Unit {0}) (λ b. (b.account ≡ l.account) × All (IsLineOf l.raised) b.read)
settles words p l None none_handed agree = tt
settles words p l (Some b) none_handed agree =
    let a = agree b refl in
    (sym (same_account (slice_index words (credit_word p) == 0) (slice_index words (credit_word p)) l b.account none_handed a.balanced), a.polled)

pub closes : {S : Type 0} (id : ℕ) (v : View) (words : List ℕ) (slots : List S) → IsKeeping v → ((p : ℕ) → (lane_at (lanes_of v) p).handed ≡ None)
    → Final (Seen Holds id v) words slots → (p : ℕ) → p < length (lanes_of v) → IsSettled (lane_at (lanes_of v) p)
closes id v words slots k quiet f p lt =
    let h = f.1.0 in
    let is = f.1.1 in
    let l = lane_at (lanes_of v) p in
    settles f.0.words p l l.joined (quiet p) (λ b e. h.agree id id p v v b is is k (known v p b k e) lt)
