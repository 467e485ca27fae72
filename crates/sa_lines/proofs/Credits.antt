-- A credit goes through its number, and leaves the keeper as it was but for the account.
use Rattle.std.proofs.Common.{◌≡◌, ℕ, ◌-◌, ◌<◌, ◌≤◌, nat_lt, Bool, true, false, List, length, slice_set, refl, sym, ◌∙◌, ap, subst, arith, Option, None, if◌then◌else◌}
use Rattle.std.proofs.lemmas.Bool.Decides.{nat_tests}
use Rattle.std.proofs.lemmas.List.{set-set}
use Rattle.sa_base.specs.declared.limits.TheConstants.{MAX_EVENTS}
use Rattle.sa_base.specs.declared.record.End.TheVariants.{AllDone}
use Rattle.sa_lines.specs.declared.credit.Account.{Account}
use Rattle.sa_lines.specs.declared.credit.Credit.{Credit}
use Rattle.sa_lines.specs.declared.credit.Credit.TheVariants.{Turns, End as Ended}
use Rattle.sa_lines.specs.declared.view.Lane.{Lane}
use Rattle.sa_lines.specs.declared.view.View.{View}
use Rattle.sa_lines.specs.declared.view.View.TheVariants.{Keeping}
use Rattle.sa_lines.specs.Credit.{credited, MayCredit, number_of, end_of, credit_of}
use Rattle.sa_lines.specs.Words.{lane_at, changed, lanes_of, IsKeeping}
use Rattle.sa_lines.specs.Steps.{granted, cleared, on_lane}
use Rattle.sa_lines.specs.Seen.{credited_lane, IsQuiet, MayGrant}
use Rattle.sa_lines.proofs.Steps.{lane_here}

turns_back : (b : Bool) (n : ℕ) → nat_lt MAX_EVENTS n ≡ b → n ≤ MAX_EVENTS → (if b then Ended (end_of (n - MAX_EVENTS)) else Turns n) ≡ Turns n
turns_back true n e le = absurd (let lt : MAX_EVENTS < n = grind (arith, nat_tests, e) in omega (arith, lt, le))
turns_back false n e le = refl

-- the number tells the credit
pub credit_back : (c : Credit) (a : Account) → MayCredit a c → credit_of (number_of c) ≡ c
credit_back (Turns n) a may = turns_back (nat_lt MAX_EVENTS n) n refl (let room = may.1 in omega (arith, room))
credit_back (Ended AllDone) a may = refl
credit_back _ a may = refl

pub number_some : (c : Credit) (a : Account) → MayCredit a c → 0 < number_of c
number_some (Turns n) a may = may.0
number_some (Ended AllDone) a may = omega arith
number_some _ a may = omega arith

room_for : (c : Credit) (a : Account) → MayCredit a c → a.count ≤ MAX_EVENTS → (credited c a).count ≤ MAX_EVENTS
room_for (Turns n) a may le = may.1
room_for (Ended x) a may le = le

pub may_grant : (v : View) (p : ℕ) (c : Credit) → IsKeeping v → p < length (lanes_of v) → ((q : ℕ) → IsQuiet (lane_at (lanes_of v) q))
    → MayCredit (lane_at (lanes_of v) p).account c → MayGrant p (number_of c) v
may_grant v p c keeping inside quiet may =
    let a = (lane_at (lanes_of v) p).account in record {
      keeping = keeping;
      inside = inside;
      some = number_some c a may;
      none_handed = (quiet p).none_handed;
      room = subst (λ (z : Credit). (credited z a).count ≤ MAX_EVENTS) (sym (credit_back c a may)) (room_for c a may (quiet p).counted);
    }

-- what was handed over and taken is credited
handed_over : (l : Lane) (c : Credit) → credit_of (number_of c) ≡ c → l.handed ≡ None → cleared (granted (number_of c) l) ≡ credited_lane c l
handed_over l c back none_handed =
    let credited_it : cleared (granted (number_of c) l) ≡ record l { account = credited c l.account; handed = None } =
    ap (λ (z : Credit). record l { account = credited z l.account; handed = None }) back in
    credited_it ∙ ap (λ (z : Option ℕ). record l { account = credited c l.account; handed = z }) (sym none_handed)

pub credit_lanes : (lanes : List Lane) (p : ℕ) (c : Credit) → p < length lanes → (lane_at lanes p).handed ≡ None → credit_of (number_of c) ≡ c
    → changed p cleared (changed p (granted (number_of c)) lanes) ≡ changed p (credited_lane c) lanes
credit_lanes lanes p c lt none_handed back =
    ap (λ (l : Lane). slice_set (changed p (granted (number_of c)) lanes) p (cleared l)) (lane_here p (granted (number_of c)) lanes lt)
    ∙ set-set lanes p (granted (number_of c) (lane_at lanes p)) (cleared (granted (number_of c) (lane_at lanes p)))
    ∙ ap (λ (l : Lane). slice_set lanes p l) (handed_over (lane_at lanes p) c back none_handed)

-- the keeper's view after a credit
pub credit_view : (v : View) (p : ℕ) (c : Credit) → IsKeeping v → p < length (lanes_of v) → (lane_at (lanes_of v) p).handed ≡ None → credit_of (number_of c) ≡ c
    → on_lane p cleared (on_lane p (granted (number_of c)) v) ≡ on_lane p (credited_lane c) v
credit_view (Keeping lanes split) p c k lt none_handed back = ap (λ (l : List Lane). Keeping l split) (credit_lanes lanes p c lt none_handed back)
credit_view _ p c k lt none_handed back = refl

-- the same, with the processor and the number as the code has them
pub grants : (v : View) (lanes : List Lane) (p q n : ℕ) (c : Credit) → q ≡ p → n ≡ number_of c → lanes_of v ≡ lanes → IsKeeping v
    → ((i : ℕ) → IsQuiet (lane_at (lanes_of v) i))
    → q < length (lanes_of v) → MayCredit (lane_at lanes p).account c → MayGrant q n v
grants v lanes p q n c same is known k quiet lt may =
    subst (λ z. MayGrant q z v) (sym is)
    (may_grant v q c k lt quiet (subst (λ (l : List Lane). MayCredit (lane_at l q).account c) (sym known)
    (subst (λ z. MayCredit (lane_at lanes z).account c) (sym same) may)))

pub credits : (v granted_one cleared_one : View) (lanes : List Lane) (p q n : ℕ) (c : Credit) → q ≡ p → n ≡ number_of c → lanes_of v ≡ lanes → IsKeeping v
    → ((i : ℕ) → IsQuiet (lane_at (lanes_of v) i))
    → q < length (lanes_of v) → MayCredit (lane_at lanes p).account c → granted_one ≡ on_lane q (granted n) v → cleared_one ≡ on_lane q cleared granted_one
    → cleared_one ≡ on_lane p (credited_lane c) v
credits v granted_one cleared_one lanes p q n c same is known k quiet lt may one two =
    two ∙ ap (on_lane q cleared) (one ∙ ap (λ (z : ℕ). on_lane q (granted z) v) is)
    ∙ credit_view v q c k lt (quiet q).none_handed (credit_back c (lane_at lanes p).account may)
    ∙ ap (λ (z : ℕ). on_lane z (credited_lane c) v) same

pub lanes_on : (v : View) (p : ℕ) (change : Lane → Lane) → lanes_of (on_lane p change v) ≡ changed p change (lanes_of v)
lanes_on (Keeping lanes split) p change = refl
lanes_on _ p change = refl
