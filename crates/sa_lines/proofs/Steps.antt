-- Each step of the keeper and of a poller keeps the rule.
use Rattle.std.proofs.Common.{◌-◌, ◌≡◌, ◌≢◌, ℕ, zero, suc, ◌+◌, ◌*◌, ◌<◌, ◌≤◌, ◌==◌, Bool, true, false, List, [], ◌∷◌, length, slice_index, slice_set, MatchBool, inl, inr, refl, sym, ◌∙◌, ap, subst, arith}
use Rattle.std.proofs.lemmas.Bool.Decides.{nat_tests}
use Rattle.std.proofs.lemmas.List.{length-set, set-get_or, get_or-set_same, get_or-set_other}
use Rattle.std.proofs.Math.Nat.{mul-div_cancel_left}
use mathlib.Core.Option.{Option as Maybe, some, none, some-injective, some-ne-none}
use mathlib.Core.Logic.{dite}
use native.Mathlib.Decide.{ℕ_discrete}
use lib.ListN.{get_elem?}
use prog.Atomic.{either}
use Rattle.atomic_table.specs.Table.{State, step, Act, keeps, Valid, carried_after, stepped, Allows}
use Rattle.atomic_table.specs.Seated.{TableId}
use Rattle.atomic_table.proofs.Lists.{at_set, set_again, set_else}
use Rattle.sa_base.specs.declared.number.ProcNo.{ProcNo}
use Rattle.sa_base.specs.declared.limits.TheConstants.{MAX_EVENTS}
use Rattle.sa_lines.specs.declared.view.Lane.{Lane}
use Rattle.sa_lines.specs.declared.view.Polled.{Polled}
use Rattle.sa_lines.specs.declared.view.View.{View}
use Rattle.sa_lines.specs.declared.view.View.TheVariants.{Keeping, Polling}
use Rattle.sa_lines.specs.Credit.{applied}
use Rattle.sa_lines.specs.Words.{line_word, credit_word, proc_of, lane_at, changed, fresh_lane, Agree, AgreeAt, IsKeeping, lanes_of, Knows, FitsWords, Holds}
use Rattle.sa_lines.specs.Steps.{raised, lowered, granted, cleared, polled, taken, on_lane, on_poller, Becomes, Raises, Lowers, Polls, Grants, Takes, Clears}
use Rattle.sa_lines.specs.Seen.{IsPollerOf, MayGrant, KeepsWell}
use Rattle.sa_lines.proofs.Agreeing.{agree_raised, agree_lowered, agree_polled, agree_granted, agree_taken, room_taken, agree_cleared, agree_away, agree_line, agree_credit}

-- the processor of a word
pub proc_line : (p : ℕ) → proc_of (line_word p) ≡ p
proc_line p = mul-div_cancel_left p (omega arith)

pub proc_credit : (p : ℕ) → proc_of (credit_word p) ≡ p
proc_credit p = grind arith

-- lanes when one is changed
pub same_field : {B : Type 0} (g : Lane → B) (change : Lane → Lane) → ((l : Lane) → g (change l) ≡ g l) → (lanes : List Lane) (p q : ℕ)
    → g (lane_at (changed p change lanes) q) ≡ g (lane_at lanes q)
same_field g change keep (l ∷ lanes) zero zero = keep l
same_field g change keep (l ∷ lanes) (suc p) (suc q) = same_field g change keep lanes p q
same_field g change keep _ _ _ = refl

pub lane_here : (p : ℕ) (change : Lane → Lane) (lanes : List Lane) → p < length lanes → lane_at (changed p change lanes) p ≡ change (lane_at lanes p)
lane_here p change lanes lt = get_or-set_same lanes p (change (lane_at lanes p)) fresh_lane lt

pub lane_else : (p q : ℕ) (change : Lane → Lane) (lanes : List Lane) → q ≢ p → lane_at (changed p change lanes) q ≡ lane_at lanes q
lane_else p q change lanes ne = get_or-set_other lanes p q (change (lane_at lanes p)) fresh_lane ne

pub length_changed : (p : ℕ) (change : Lane → Lane) (lanes : List Lane) → length (changed p change lanes) ≡ length lanes
length_changed p change lanes = length-set lanes p (change (lane_at lanes p))

-- a view that was set is there
pub set_at : {A : Type 0} (l : List A) (i : ℕ) (a b : A) → get_elem? l i ≡ some a → get_elem? (slice_set l i b) i ≡ some b
set_at [] i a b e = absurd (some-ne-none a (sym e))
set_at (x ∷ xs) zero a b e = refl
set_at (x ∷ xs) (suc i) a b e = set_at xs i a b e

-- a word that is not 0 is there
in_range : (words : List ℕ) (i n : ℕ) → slice_index words i ≡ n → 0 < n → i < length words
in_range [] i n e pos = absurd (omega (arith, e, pos))
in_range (x ∷ xs) zero n e pos = omega arith
in_range (x ∷ xs) (suc i) n e pos = let r = in_range xs i n e pos in omega (arith, r)

-- a view after a step is of no other keeper or poller than before
pub record Follows (v w : View) : Type 0 where
  pub keeping : IsKeeping w → IsKeeping v
  pub still : IsKeeping v → IsKeeping w
  pub knows : (q : ℕ) (b : Polled) → Knows w q b → (a : Polled) × Knows v q a

module _ {S : Type 0} (s : State S View) (id : ℕ) (v w : View) (h : Holds s) (is : get_elem? s.views id ≡ some v) (follows : Follows v w) where
  -- what the view at i was before
  was : (i : ℕ) (x : View) → get_elem? (slice_set s.views id w) i ≡ some x → (y : View) × (get_elem? s.views i ≡ some y) × Follows y x
  was i x a = elim (at_set s.views id i w x a) [
    | inl e ↦ (v, subst (λ j. get_elem? s.views j ≡ some v) (sym e.0) is, subst (Follows v) e.1 follows)
    | inr e ↦ (x, e.1, record { keeping = λ k. k; still = λ k. k; knows = λ q b k. (b, k) })
  ]

  pub still_keeper : (i : ℕ) × (k : View) × (get_elem? (slice_set s.views id w) i ≡ some k) × IsKeeping k
  still_keeper =
      let k = h.keeper in
      dite (ℕ_discrete k.0 id)
      (λ e.
      let same : k.1 ≡ v = some-injective k.1 v (sym k.2 ∙ ap (λ (i : ℕ). get_elem? s.views i) e ∙ is) in
      (id, w, set_at s.views id v w is, follows.still (subst IsKeeping same k.3)))
      (λ ne. (k.0, k.1, set_else s.views id k.0 w ne ∙ k.2, k.3))

  pub still_one_keeper : (i j : ℕ) (x y : View) → get_elem? (slice_set s.views id w) i ≡ some x → get_elem? (slice_set s.views id w) j ≡ some y → IsKeeping x
      → IsKeeping y → i ≡ j
  still_one_keeper i j x y a b kx ky =
      let xs = was i x a in
      let ys = was j y b in
      h.one_keeper i j xs.0 ys.0 xs.1 ys.1 (xs.2.keeping kx) (ys.2.keeping ky)

  pub still_one_poller : (i j q : ℕ) (x y : View) (c d : Polled) → get_elem? (slice_set s.views id w) i ≡ some x
      → get_elem? (slice_set s.views id w) j ≡ some y → Knows x q c → Knows y q d → i ≡ j
  still_one_poller i j q x y c d a b kx ky =
      let xs = was i x a in
      let ys = was j y b in
      let kx' = xs.2.knows q c kx in
      let ky' = ys.2.knows q d ky in
      h.one_poller i j q xs.0 ys.0 kx'.0 ky'.0 xs.1 ys.1 kx'.1 ky'.1

module _ {S : Type 0} (s : State S View) (id : ℕ) (h : Holds s) (place x : ℕ) (homes : List (Maybe S)) where
  abbrev pub words : List ℕ
  words = slice_set s.words place x

  module _ (lanes : List Lane) (split : ℕ) (is : get_elem? s.views id ≡ some (Keeping lanes split)) (p : ℕ) (change : Lane → Lane) (same : (l : Lane)
      → (change l).joined ≡ l.joined) where
    abbrev pub before : View
    before = Keeping lanes split

    abbrev pub after : View
    after = Keeping (changed p change lanes) split

    same_joined : (q : ℕ) → (lane_at (changed p change lanes) q).joined ≡ (lane_at lanes q).joined
    same_joined q = same_field (λ (l : Lane). l.joined) change same lanes p q

    knew : (q : ℕ) (b : Polled) → Knows after q b → Knows before q b
    knew q b k = elim k [ inl z ↦ inl z | inr z ↦ inr (sym (same_joined q) ∙ z) ]

    follows : Follows before after
    follows = record { keeping = λ k. k; still = λ k. k; knows = λ q b k. (b, knew q b k) }

    -- what agreed before
    agreed : (j q : ℕ) (y : View) (b : Polled) → get_elem? (slice_set s.views id after) j ≡ some y → Knows y q b → q < length lanes
        → AgreeAt s.words q (lane_at lanes q) b
    agreed j q y b there k lt = elim (at_set s.views id j after y there) [
      | inl e ↦ h.agree id id q before before b is is tt (knew q b (subst (λ z. Knows z q b) (sym e.1) k)) lt
      | inr e ↦ h.agree id j q before y b is e.1 tt k lt
    ]

    -- the keeper steps at p
    pub keeper_keeps : ((q : ℕ) → q ≢ p → (line_word q ≢ place) × (credit_word q ≢ place))
        → ((b : Polled) → credit_word p < length s.words → AgreeAt s.words p (lane_at lanes p) b → AgreeAt words p (change (lane_at lanes p)) b)
        → Holds record { words = words; homes = homes; views = slice_set s.views id after }
    keeper_keeps away mine =
        let fit = h.fits id before is tt in
        let now : (q : ℕ) (b : Polled) → q < length lanes → AgreeAt s.words q (lane_at lanes q) b → AgreeAt words q (lane_at (changed p change lanes) q) b =
        λ q b lt a. dite (ℕ_discrete q p)
        (λ e.
        let ltp : p < length lanes = subst (λ z. z < length lanes) e lt in
        let room : credit_word p < length s.words = let size = fit.size in omega (arith, size, ltp) in
        subst (λ z. AgreeAt words z (lane_at (changed p change lanes) z) b) (sym e)
        (subst (λ l. AgreeAt words p l b) (sym (lane_here p change lanes ltp))
        (mine b room (subst (λ z. AgreeAt s.words z (lane_at lanes z) b) e a))))
        (λ ne. subst (λ l. AgreeAt words q l b) (sym (lane_else p q change lanes ne))
        (agree_away s.words q x (lane_at lanes q) b place (away q ne).0 (away q ne).1 a)) in record {
          keeper = still_keeper s id before after h is follows;
          one_keeper = still_one_keeper s id before after h is follows;
          one_poller = still_one_poller s id before after h is follows;
          fits = λ i k there kk. elim (at_set s.views id i after k there) [
            | inl e ↦ subst (FitsWords words) e.1 record {
              size = length-set s.words place x ∙ fit.size ∙ ap (λ n. 2 * n) (sym (length_changed p change lanes));
              unsplit = λ q le. same_joined q ∙ fit.unsplit q le;
            }
            | inr e ↦ absurd (e.0 (h.one_keeper i id k before e.1 is kk tt))
          ];
          agree = λ i j q k y b ka yb kk ky lt. elim (at_set s.views id i after k ka) [
            | inl e ↦
                let lt' : q < length lanes = subst (λ n. q < n) (length_changed p change lanes) (subst (λ z. q < length (lanes_of z)) (sym e.1) lt) in
                subst (λ z. AgreeAt words q (lane_at (lanes_of z) q) b) e.1 (now q b lt' (agreed j q y b yb ky lt'))
            | inr e ↦ absurd (e.0 (h.one_keeper i id k before e.1 is kk tt))
          ];
        }

  module _ (p : ProcNo) (own own' : Polled) (is : get_elem? s.views id ≡ some (Polling p own)) where
    abbrev pub mine : View
    mine = Polling p own

    abbrev pub next : View
    next = Polling p own'

    goes : Follows mine next
    goes = record { keeping = λ k. k; still = λ k. k; knows = λ q b k. (own, (k.0, refl)) }

    -- the poller of p steps
    pub poller_keeps : ((q : ℕ) → q ≢ p.0 → (line_word q ≢ place) × (credit_word q ≢ place))
        → ((l : Lane) → credit_word p.0 < length s.words → AgreeAt s.words p.0 l own → AgreeAt words p.0 l own')
        → Holds record { words = words; homes = homes; views = slice_set s.views id next }
    poller_keeps away agrees = record {
      keeper = still_keeper s id mine next h is goes;
      one_keeper = still_one_keeper s id mine next h is goes;
      one_poller = still_one_poller s id mine next h is goes;
      fits = λ i k there kk. elim (at_set s.views id i next k there) [
        | inl e ↦ absurd (subst IsKeeping (sym e.1) kk)
        | inr e ↦ (let fit = h.fits i k e.1 kk in record { size = length-set s.words place x ∙ fit.size; unsplit = fit.unsplit })
      ];
      agree = λ i j q k y b ka yb kk ky lt. elim (at_set s.views id i next k ka) [
        | inl e ↦ absurd (subst IsKeeping (sym e.1) kk)
        | inr e ↦ elim (at_set s.views id j next y yb) [
          | inl d ↦
              let known = subst (λ z. Knows z q b) (sym d.1) ky in
              let ltp : p.0 < length (lanes_of k) = subst (λ z. z < length (lanes_of k)) (sym known.0) lt in
              let room : credit_word p.0 < length s.words = let size = (h.fits i k e.1 kk).size in omega (arith, size, ltp) in
              let old = h.agree i id p.0 k mine own e.1 is kk (refl, refl) ltp in
              subst (λ z. AgreeAt words z (lane_at (lanes_of k) z) b) known.0
              (subst (λ z. AgreeAt words p.0 (lane_at (lanes_of k) p.0) z) known.1 (agrees (lane_at (lanes_of k) p.0) room old))
          | inr d ↦
              let ne : q ≢ p.0 = λ z. d.0 (h.one_poller j id q y mine b own d.1 is ky (sym z, refl)) in
              agree_away s.words q x (lane_at (lanes_of k) q) b place (away q ne).0 (away q ne).1 (h.agree i j q k y b e.1 d.1 kk ky lt)
        ]
      ];
    }

-- the words of other processors
apart_line : (p q : ℕ) → q ≢ p → (line_word q ≢ line_word p) × (credit_word q ≢ line_word p)
apart_line p q ne = (λ e. ne (omega (arith, e)), λ e. omega (arith, e))

apart_credit : (p q : ℕ) → q ≢ p → (line_word q ≢ credit_word p) × (credit_word q ≢ credit_word p)
apart_credit p q ne = (λ e. omega (arith, e), λ e. ne (omega (arith, e)))

-- the event of a number that is stored for a raise
pub one_less : (e : ℕ) → e + 1 - 1 ≡ e
one_less e = omega arith

module _ {S : Type 0} (slots id : ℕ) (held : List (ℕ × S)) where
  -- a view that becomes one with the lane of this processor changed
  becomes_at : (change : Lane → Lane) (v : View) (p q : ℕ) → q ≡ p → Becomes (v, held) (on_lane q change v) (on_lane p change v, held)
  becomes_at change v p q e = ap (λ (z : ℕ). (on_lane z change v, held)) (sym e)

  raise_keeps : (v : View) (p e : ℕ) → IsKeeping v
      → Allows Holds slots id (v, held) (line_word p) (λ _. e + 1) (λ _. Raises (step slots (line_word p) (e + 1) 0 none) (v, held) (e + 1))
  raise_keeps (Keeping lanes split) p e k = λ s h len is fits. (
    on_lane p (raised e) (Keeping lanes split),
    keeps,
    tt,
    keeper_keeps s id h (line_word p) (e + 1) s.homes lanes split is p (raised e) (λ l. refl) (apart_line p)
        (λ b room a. agree_line s.words p (e + 1) (raised e (lane_at lanes p)) b room
        (agree_raised (slice_index s.words (line_word p)) (slice_index s.words (credit_word p)) e (lane_at lanes p) b a)),
    ap (λ (z : ℕ). (on_lane p (raised z) (Keeping lanes split), held)) (sym (one_less e))
        ∙ becomes_at (raised (e + 1 - 1)) (Keeping lanes split) p (proc_of (line_word p)) (proc_line p),
  )
  raise_keeps _ p e k = absurd k

  lower_keeps : (v : View) (p : ℕ) → IsKeeping v
      → Allows Holds slots id (v, held) (line_word p) (λ _. 0) (λ _. Lowers (step slots (line_word p) 0 0 none) (v, held) 0)
  lower_keeps (Keeping lanes split) p k = λ s h len is fits. (
    on_lane p lowered (Keeping lanes split),
    keeps,
    tt,
    keeper_keeps s id h (line_word p) 0 s.homes lanes split is p lowered (λ l. refl) (apart_line p)
        (λ b room a. agree_line s.words p 0 (lowered (lane_at lanes p)) b room
        (agree_lowered (slice_index s.words (line_word p)) (slice_index s.words (credit_word p)) (lane_at lanes p) b a)),
    becomes_at lowered (Keeping lanes split) p (proc_of (line_word p)) (proc_line p),
  )
  lower_keeps _ p k = absurd k

  grant_keeps : (v : View) (p n : ℕ) → MayGrant p n v
      → Allows Holds slots id (v, held) (credit_word p) (λ _. n) (λ _. Grants (step slots (credit_word p) n 0 none) (v, held) n)
  grant_keeps (Keeping lanes split) p n may = λ s h len is fits. (
    on_lane p (granted n) (Keeping lanes split),
    keeps,
    tt,
    keeper_keeps s id h (credit_word p) n s.homes lanes split is p (granted n) (λ l. refl) (apart_credit p)
        (λ b room a. agree_credit s.words p n (granted n (lane_at lanes p)) b room
        (agree_granted (slice_index s.words (line_word p)) (slice_index s.words (credit_word p)) n (lane_at lanes p) b may.some may.none_handed may.room a)),
    becomes_at (granted n) (Keeping lanes split) p (proc_of (credit_word p)) (proc_credit p),
  )
  grant_keeps _ p n may = absurd may.keeping

  -- a word is as it was
  same_word : (words : List ℕ) (place p : ℕ) (l : Lane) (b : Polled) → AgreeAt words p l b → AgreeAt (slice_set words place (slice_index words place)) p l b
  same_word words place p l b a = subst (λ z. AgreeAt z p l b) (sym (set-get_or words place 0)) a

  -- a step that changes nothing
  unchanged : (s : State S View) → Holds s → (place : ℕ) (v : View) → get_elem? s.views id ≡ some v
      → Holds record { words = slice_set s.words place (slice_index s.words place); homes = s.homes; views = slice_set s.views id v }
  unchanged s h place v is = subst (λ z. Holds record { words = z; homes = s.homes; views = slice_set s.views id v }) (sym (set-get_or s.words place 0))
      (subst (λ z. Holds record { words = s.words; homes = s.homes; views = z }) (sym (set_again s.views id v is)) h)

  -- what a clear does where it reads 0, and where it does not
  clear_goes : (lanes : List Lane) (split p : ℕ) (s : State S View) → Holds s → get_elem? s.views id ≡ some (Keeping lanes split) → (b : Bool)
      → (slice_index s.words (credit_word p) == 0) ≡ b
      → (w : View) × (a : Act S) × Valid s.homes held a × Holds (stepped s (credit_word p) (slice_index s.words (credit_word p)) id held w a)
      × MatchBool b (Becomes (Keeping lanes split, held) (on_lane (proc_of (credit_word p)) cleared (Keeping lanes split)) (w, carried_after held a))
      (Becomes (Keeping lanes split, held) (Keeping lanes split) (w, carried_after held a))
  clear_goes lanes split p s h is true e =
      let n : ℕ = slice_index s.words (credit_word p) in (
        on_lane p cleared (Keeping lanes split),
        keeps,
        tt,
        keeper_keeps s id h (credit_word p) n s.homes lanes split is p cleared (λ l. refl) (apart_credit p)
            (λ b room a. agree_credit s.words p n (cleared (lane_at lanes p)) b room
            (agree_cleared (slice_index s.words (line_word p)) n (lane_at lanes p) b e a)),
        becomes_at cleared (Keeping lanes split) p (proc_of (credit_word p)) (proc_credit p),
      )
  clear_goes lanes split p s h is false e =
      let n : ℕ = slice_index s.words (credit_word p) in (
        Keeping lanes split,
        keeps,
        tt,
        unchanged s h (credit_word p) (Keeping lanes split) is,
        refl,
      )

  clear_keeps : (v : View) (p : ℕ) → IsKeeping v
      → Allows Holds slots id (v, held) (credit_word p) (λ n. n) (Clears (step slots (credit_word p) 0 0 none) (v, held))
  clear_keeps (Keeping lanes split) p k = λ s h len is fits. clear_goes lanes split p s h is (slice_index s.words (credit_word p) == 0) refl
  clear_keeps _ p k = absurd k

  poll_own : (q : ProcNo) (own : Polled)
      → Allows Holds slots id (Polling q own, held) (line_word q.0) (λ n. n) (Polls (step slots (line_word q.0) 0 0 none) (Polling q own, held))
  poll_own q own = λ s h len is fits.
      let n : ℕ = slice_index s.words (line_word q.0) in (
        Polling q (polled n own),
        keeps,
        tt,
        poller_keeps s id h (line_word q.0) n s.homes q own (polled n own) is (apart_line q.0)
            (λ l room a. same_word s.words (line_word q.0) q.0 l (polled n own) (agree_polled n (slice_index s.words (credit_word q.0)) l own a)),
        refl,
      )

  poll_keeps : (v : View) (p : ℕ) → IsPollerOf v p
      → Allows Holds slots id (v, held) (line_word p) (λ n. n) (Polls (step slots (line_word p) 0 0 none) (v, held))
  poll_keeps (Polling q own) p k =
      subst (λ z. Allows Holds slots id (Polling q own, held) (line_word z) (λ n. n) (Polls (step slots (line_word z) 0 0 none) (Polling q own, held))) k
      (poll_own q own)
  poll_keeps _ p k = absurd k

  -- the number that is taken leaves room in the account
  room_after : (q : ProcNo) (own : Polled) (n : ℕ) → 0 < n → (s : State S View) → Holds s → get_elem? s.views id ≡ some (Polling q own)
      → slice_index s.words (credit_word q.0) ≡ n → (applied n own.account).count ≤ MAX_EVENTS
  room_after q own n pos s h is found =
      let k = h.keeper in
      let size = (h.fits k.0 k.1 k.2 k.3).size in
      let range = in_range s.words (credit_word q.0) n found pos in
      let ltp : q.0 < length (lanes_of k.1) = omega (arith, size, range) in
      let lane = lane_at (lanes_of k.1) q.0 in
      let a = h.agree k.0 id q.0 k.1 (Polling q own) own k.2 is k.3 (refl, refl) ltp in
      room_taken (slice_index s.words (line_word q.0)) n lane own pos (subst (λ z. Agree (slice_index s.words (line_word q.0)) z lane own) found a)

  -- what a take does where it finds the number, and where it does not
  take_goes : (q : ProcNo) (own : Polled) (n : ℕ) → 0 < n → (s : State S View) → Holds s → get_elem? s.views id ≡ some (Polling q own) → (b : Bool)
      → (slice_index s.words (credit_word q.0) == n) ≡ b
      → (w : View) × (a : Act S) × Valid s.homes held a × Holds (stepped s (credit_word q.0) (either b 0 (slice_index s.words (credit_word q.0))) id held w a)
      × MatchBool b (Becomes (Polling q own, held) (on_poller (taken n) (Polling q own)) (w, carried_after held a)
      × ((applied n own.account).count ≤ MAX_EVENTS)) (Becomes (Polling q own, held) (Polling q own) (w, carried_after held a))
  take_goes q own n pos s h is true e =
      let found : slice_index s.words (credit_word q.0) ≡ n = grind (arith, nat_tests, e) in (
        Polling q (taken n own),
        keeps,
        tt,
        poller_keeps s id h (credit_word q.0) 0 s.homes q own (taken n own) is (apart_credit q.0)
            (λ l room a. agree_credit s.words q.0 0 l (taken n own) room
            (agree_taken (slice_index s.words (line_word q.0)) n l own pos (subst (λ z. Agree (slice_index s.words (line_word q.0)) z l own) found a))),
        (refl, room_after q own n pos s h is found),
      )
  take_goes q own n pos s h is false e = (
    Polling q own,
    keeps,
    tt,
    unchanged s h (credit_word q.0) (Polling q own) is,
    refl,
  )

  take_keeps : (v : View) (p n : ℕ) → IsPollerOf v p → 0 < n
      → Allows Holds slots id (v, held) (credit_word p) (λ m. either (m == n) 0 m) (Takes (step slots (credit_word p) n 0 none) (v, held))
  take_keeps (Polling q own) p n k pos =
      subst (λ z. Allows Holds slots id (Polling q own, held) (credit_word z) (λ m. either (m == n) 0 m)
      (Takes (step slots (credit_word z) n 0 none) (Polling q own, held))) k
      (λ s h len is fits. take_goes q own n pos s h is (slice_index s.words (credit_word q.0) == n) refl)
  take_keeps _ p n k pos = absurd k

  -- the same, with the place of the word as the code gives it
  pub raise_allows : (v : View) (p e i : ℕ) → i ≡ line_word p → IsKeeping v
      → Allows Holds slots id (v, held) i (λ _. e + 1) (λ _. Raises (step slots i (e + 1) 0 none) (v, held) (e + 1))
  raise_allows v p e i at_i k =
      subst (λ z. Allows Holds slots id (v, held) z (λ _. e + 1) (λ _. Raises (step slots z (e + 1) 0 none) (v, held) (e + 1))) (sym at_i) (raise_keeps v p e k)

  pub lower_allows : (v : View) (p i : ℕ) → i ≡ line_word p → IsKeeping v
      → Allows Holds slots id (v, held) i (λ _. 0) (λ _. Lowers (step slots i 0 0 none) (v, held) 0)
  lower_allows v p i at_i k =
      subst (λ z. Allows Holds slots id (v, held) z (λ _. 0) (λ _. Lowers (step slots z 0 0 none) (v, held) 0)) (sym at_i) (lower_keeps v p k)

  pub grant_allows : (v : View) (p n i : ℕ) → i ≡ credit_word p → MayGrant p n v
      → Allows Holds slots id (v, held) i (λ _. n) (λ _. Grants (step slots i n 0 none) (v, held) n)
  grant_allows v p n i at_i may =
      subst (λ z. Allows Holds slots id (v, held) z (λ _. n) (λ _. Grants (step slots z n 0 none) (v, held) n)) (sym at_i) (grant_keeps v p n may)

  pub clear_allows : (v : View) (p i : ℕ) → i ≡ credit_word p → IsKeeping v
      → Allows Holds slots id (v, held) i (λ n. n) (Clears (step slots i 0 0 none) (v, held))
  clear_allows v p i at_i k = subst (λ z. Allows Holds slots id (v, held) z (λ n. n) (Clears (step slots z 0 0 none) (v, held))) (sym at_i) (clear_keeps v p k)

  pub poll_allows : (v : View) (p i : ℕ) → i ≡ line_word p → IsPollerOf v p
      → Allows Holds slots id (v, held) i (λ n. n) (Polls (step slots i 0 0 none) (v, held))
  poll_allows v p i at_i k = subst (λ z. Allows Holds slots id (v, held) z (λ n. n) (Polls (step slots z 0 0 none) (v, held))) (sym at_i) (poll_keeps v p k)

  pub take_allows : (v : View) (p n i : ℕ) → i ≡ credit_word p → IsPollerOf v p → 0 < n
      → Allows Holds slots id (v, held) i (λ m. either (m == n) 0 m) (Takes (step slots i n 0 none) (v, held))
  take_allows v p n i at_i k pos =
      subst (λ z. Allows Holds slots id (v, held) z (λ m. either (m == n) 0 m) (Takes (step slots z n 0 none) (v, held))) (sym at_i) (take_keeps v p n k pos)

-- the two words of a processor of the keeper are in the table
pub words_inside : (table other : TableId) (v : View) (lanes : List Lane) (p : ℕ) → table ≡ other → lanes_of v ≡ lanes → KeepsWell table v → p < length lanes
    → credit_word p < other.words
words_inside table other v lanes p own same well lt =
    let size = well.size in
    let words : table.words ≡ other.words = ap (λ (t : TableId). t.words) own in
    let long : length (lanes_of v) ≡ length lanes = ap length same in
    omega (arith, size, words, long, lt)
