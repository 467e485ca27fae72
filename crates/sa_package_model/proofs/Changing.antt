-- A change of one context, and of what is at rest, leaves everything standing; so does one context taken over by another.
use Rattle.std.proofs.Common.{◌≡◌, ◌≢◌, ℕ, ◌+◌, ◌≤◌, ◌<◌, List, [], ◌∷◌, length, Option, Some, None, slice_get, refl, sym, ap, ◌∙◌, subst, inl, inr, arith}
use Rattle.std.proofs.lemmas.Bool.{cases_eq, cases_lt}
use Rattle.std.proofs.lemmas.Option.{same_Some}
use Rattle.sa_abstract.specs.Setting.{Setting}
use Rattle.sa_abstract.specs.Calls.{Contexts}
use Rattle.sa_lemmas.specs.Function.{put}
use Rattle.sa_lemmas.proofs.FunctionUpdates.{put-same, put-other}
use Rattle.sa_links.specs.Lists.{list_at, count_in}
use Rattle.sa_lists.specs.ReadyView.{ReadyView, list_of}
use Rattle.sa_base.specs.declared.number.ThreadNo.{ThreadNo}
use Rattle.sa_code.specs.declared.code.Op.{Op}
use Rattle.sa_code.specs.declared.code.Op.TheVariants.{Push, Pop, Free}
use Rattle.sa_code.specs.declared.state.Frame.{Frame}
use Rattle.sa_code.specs.Micro.{list_in}
use Rattle.sa_copies.specs.Copies.{package_ops}
use Rattle.sa_fast.specs.Work.{work_of}
use Rattle.sa_fast.specs.Rest.{one_of, threads_at_rest, empty_at, ArePartsFor, AgreesAt, not_carried}
use Rattle.sa_fast.proofs.WorkSteps.{one_same}
use Rattle.sa_package_model.specs.declared.context.Context.{Context}
use Rattle.sa_package_model.specs.declared.package.Package.{Package}
use Rattle.sa_package_model.specs.Laws.{IsMadeFor}
use Rattle.sa_package_model.specs.Context.{carried_by, section_in}
use Rattle.sa_package_model.specs.Rules.{thread_alone}
use Rattle.sa_package_model.specs.Hands.{sections_of, locks_in, free_locks, locks_of, threads_in, threads_of, name_of, carried_of}
use Rattle.sa_package_model.specs.Stands.{FitsOperation, AreSections, IsContext, IsStanding}
use Rattle.sa_package_model.proofs.OnePlace.{moves, joins}

-- sections stay sections where their lists stay
fits_kept : (r s : ReadyView) (f : Frame) (op : Option Op) → list_of s (list_in f).0 ≡ list_of r (list_in f).0 → FitsOperation r f op → FitsOperation s f op
fits_kept r s f (Some Push) same h = h
fits_kept r s f (Some Pop) same h = (h.0, h.1, h.2, subst (λ (xs : List ℕ). 0 < length xs) (sym same) h.3)
fits_kept r s f (Some Free) same h = h
fits_kept r s f _ same h = absurd h

pub sections_kept : (r s : ReadyView) (fs : List Frame) → ((l : ℕ) → 1 ≤ locks_in fs l → list_of s l ≡ list_of r l) → AreSections r fs → AreSections s fs
sections_kept r s [] same h = tt
sections_kept r s (f ∷ fs) same h =
    let one = one_same (list_in f).0 (list_in f).0 refl in (
      record { copy = h.0.copy; fits = fits_kept r s f (slice_get package_ops f.pc) (same (list_in f).0 (omega arith)) h.0.fits },
      sections_kept r s fs (λ l some. same l (omega arith)) h.1,
    )

-- what a context has of threads stays where its work list stays
pub hand_kept : (works after : List (List ℕ)) (c : Context) → ((n : ThreadNo) → c.work ≡ Some n → list_at after n.0 ≡ list_at works n.0)
    → (t : ℕ) → threads_of after (Some c) t ≡ threads_of works (Some c) t
hand_kept works after c same t =
    ap (λ (xs : List ℕ). threads_in (sections_of c) t + one_of (thread_alone (section_in c.state) (carried_by c.state)) t + count_in t xs)
    (kept_by c.work same) where
      kept_by : (w : Option ThreadNo) → ((n : ThreadNo) → w ≡ Some n → list_at after n.0 ≡ list_at works n.0) → work_of after w ≡ work_of works w
      kept_by None h = refl
      kept_by (Some n) h = h n refl

-- a context that names a work list
pub names_own : (c : Context) (n : ThreadNo) → c.work ≡ Some n → name_of (Some c) n.0 ≡ 1
names_own c n e = ap (λ w. one_of w n.0) e ∙ one_same n.0 n.0 refl

-- ONE CONTEXT CHANGES, or begins: what is to be shown of it
pub record IsChange (s : Setting) (event : ℕ) (u v : Package) (old : Option Context) (new : Context) : Type 0 where
  pub made : IsMadeFor s v
  pub code : v.shared.state.code ≡ package_ops
  pub parts : ArePartsFor v.def v.processors event v.shared
  pub locks : (l : ℕ) → free_locks v.shared.state.lists l + locks_of (Some new) l ≡ free_locks u.shared.state.lists l + locks_of old l
  pub threads : (t : ℕ) → threads_at_rest v.shared t + threads_of v.shared.works (Some new) t ≡ threads_at_rest u.shared t + threads_of u.shared.works old t
  pub names : (l : ℕ) → empty_at v.shared.works l + name_of (Some new) l ≡ empty_at u.shared.works l + name_of old l
  -- the lists of others stay
  pub works : (l : ℕ) → name_of old l ≡ 0 → empty_at u.shared.works l ≡ 0 → list_at v.shared.works l ≡ list_at u.shared.works l
  pub lists : (l : ℕ) → locks_of old l ≡ 0 → free_locks u.shared.state.lists l ≡ 0 → list_of v.shared.state.lists l ≡ list_of u.shared.state.lists l
  pub places : (t : ℕ) → AgreesAt v.shared t
  pub carries : (t : ℕ) → not_carried v.shared t + carried_of (Some new) t ≡ not_carried u.shared t + carried_of old t
  pub context : IsContext v.shared.state.lists new

module _ (s : Setting) (e : ℕ) (u : Package) (cs : Contexts Context) (h : IsStanding s e u cs) where
  -- what one context has, no other one has
  pub lock_none : (a b l : ℕ) → b ≢ a → 1 ≤ locks_of (cs b) l → locks_of (cs a) l ≡ 0
  lock_none a b l ne some = elim (cases_lt (locks_of (cs a) l) 1) [ inl less ↦ omega arith | inr more ↦ absurd (ne (h.locks.apart b a l some more)) ]

  pub lock_held : (b l : ℕ) → 1 ≤ locks_of (cs b) l → free_locks u.shared.state.lists l ≡ 0
  lock_held b l some = omega (arith, h.locks.once b l)

  pub name_none : (a b l : ℕ) → b ≢ a → 1 ≤ name_of (cs b) l → name_of (cs a) l ≡ 0
  name_none a b l ne some = elim (cases_lt (name_of (cs a) l) 1) [ inl less ↦ omega arith | inr more ↦ absurd (ne (h.works.apart b a l some more)) ]

  pub name_full : (b l : ℕ) → 1 ≤ name_of (cs b) l → empty_at u.shared.works l ≡ 0
  name_full b l some = omega (arith, h.works.once b l)

  -- another context keeps what it has
  pub other_hand : (after : List (List ℕ)) (b : ℕ) (x : Option Context) → cs b ≡ x → ((l : ℕ) → 1 ≤ name_of x l → list_at after l ≡ list_at u.shared.works l)
      → (t : ℕ) → threads_of after x t ≡ threads_of u.shared.works x t
  other_hand after b None is same t = refl
  other_hand after b (Some c) is same t = hand_kept u.shared.works after c (λ n e. same n.0 (let one = names_own c n e in omega arith)) t

  -- A CHANGE
  pub change-stands : (f a : ℕ) (v : Package) (old : Option Context) (new : Context) → cs a ≡ old → IsChange s f u v old new
      → IsStanding s f v (put cs a (Some new))
  change-stands f a v old new is k =
      let here : put cs a (Some new) a ≡ Some new = put-same cs a (Some new) in
      let there : (b : ℕ) → b ≢ a → put cs a (Some new) b ≡ cs b = λ b ne. put-other cs a b (Some new) ne in
      record {
        made = k.made;
        code = k.code;
        parts = k.parts;
        locks =
            moves (free_locks u.shared.state.lists) (free_locks v.shared.state.lists) (λ b. locks_of (cs b)) (λ b. locks_of (put cs a (Some new) b)) a h.locks
            (λ l. ap (λ x. free_locks v.shared.state.lists l + locks_of x l) here ∙ k.locks l
            ∙ ap (λ x. free_locks u.shared.state.lists l + locks_of x l) (sym is))
            (λ b l ne. ap (λ x. locks_of x l) (there b ne));
        threads =
            moves (threads_at_rest u.shared) (threads_at_rest v.shared) (λ b. threads_of u.shared.works (cs b))
            (λ b. threads_of v.shared.works (put cs a (Some new) b)) a h.threads
            (λ t. ap (λ x. threads_at_rest v.shared t + threads_of v.shared.works x t) here ∙ k.threads t
            ∙ ap (λ x. threads_at_rest u.shared t + threads_of u.shared.works x t) (sym is))
            (λ b t ne. ap (λ x. threads_of v.shared.works x t) (there b ne)
            ∙ other_hand v.shared.works b (cs b) refl (λ l some. k.works l (ap (λ x. name_of x l) (sym is) ∙ name_none a b l ne some) (name_full b l some)) t);
        works = moves (empty_at u.shared.works) (empty_at v.shared.works) (λ b. name_of (cs b)) (λ b. name_of (put cs a (Some new) b)) a h.works
            (λ l. ap (λ x. empty_at v.shared.works l + name_of x l) here ∙ k.names l ∙ ap (λ x. empty_at u.shared.works l + name_of x l) (sym is))
            (λ b l ne. ap (λ x. name_of x l) (there b ne));
        places = k.places;
        carries = moves (not_carried u.shared) (not_carried v.shared) (λ b. carried_of (cs b)) (λ b. carried_of (put cs a (Some new) b)) a h.carries
            (λ t. ap (λ x. not_carried v.shared t + carried_of x t) here ∙ k.carries t ∙ ap (λ x. not_carried u.shared t + carried_of x t) (sym is))
            (λ b t ne. ap (λ x. carried_of x t) (there b ne));
        contexts = λ b c at. elim (cases_eq b a) [
          | inl same ↦
              let one : c ≡ new = same_Some c new (sym at ∙ ap (put cs a (Some new)) same ∙ here) in
              subst (λ x. IsContext v.shared.state.lists x) (sym one) k.context
          | inr ne ↦
              let old_at : cs b ≡ Some c = sym (there b ne) ∙ at in
              let was = h.contexts b c old_at in
              record {
                state = was.state;
                sections = sections_kept u.shared.state.lists v.shared.state.lists (sections_of c)
                    (λ l some. let has : 1 ≤ locks_of (cs b) l = subst (λ x. 1 ≤ locks_of x l) (sym old_at) some in
                    k.lists l (ap (λ x. locks_of x l) (sym is) ∙ lock_none a b l ne has) (lock_held b l has))
                    was.sections;
              }
        ];
      }

  -- nothing changes
  pub still-change : (a : ℕ) (c : Context) → cs a ≡ Some c → IsChange s e u u (Some c) c
  still-change a c is = record {
    made = h.made;
    code = h.code;
    parts = h.parts;
    locks = λ l. refl;
    threads = λ t. refl;
    names = λ l. refl;
    works = λ l none some. refl;
    lists = λ l none held. refl;
    places = h.places;
    carries = λ t. refl;
    context = h.contexts a c is;
  }

  -- the same value and contexts stand at a later event, where the parts do
  pub later-stands : (f : ℕ) → ArePartsFor u.def u.processors f u.shared → IsStanding s f u cs
  later-stands f parts =
      record {
        made = h.made;
        code = h.code;
        parts = parts;
        locks = h.locks;
        threads = h.threads;
        works = h.works;
        places = h.places;
        carries = h.carries;
        contexts = h.contexts;
      }

-- ONE CONTEXT IS TAKEN OVER: what is to be shown of it
pub record IsJoin (s : Setting) (event : ℕ) (u v : Package) (c d new : Context) : Type 0 where
  pub made : IsMadeFor s v
  pub code : v.shared.state.code ≡ package_ops
  pub parts : ArePartsFor v.def v.processors event v.shared
  pub locks : (l : ℕ) → free_locks v.shared.state.lists l + locks_of (Some new) l
      ≡ free_locks u.shared.state.lists l + locks_of (Some c) l + locks_of (Some d) l
  pub threads : (t : ℕ) → threads_at_rest v.shared t + threads_of v.shared.works (Some new) t
      ≡ threads_at_rest u.shared t + threads_of u.shared.works (Some c) t + threads_of u.shared.works (Some d) t
  pub names : (l : ℕ) → empty_at v.shared.works l + name_of (Some new) l ≡ empty_at u.shared.works l + name_of (Some c) l + name_of (Some d) l
  pub works : (l : ℕ) → name_of (Some c) l ≡ 0 → name_of (Some d) l ≡ 0 → empty_at u.shared.works l ≡ 0 → list_at v.shared.works l ≡ list_at u.shared.works l
  pub lists : v.shared.state.lists ≡ u.shared.state.lists
  pub places : (t : ℕ) → AgreesAt v.shared t
  pub carries : (t : ℕ) → not_carried v.shared t + carried_of (Some new) t ≡ not_carried u.shared t + carried_of (Some c) t + carried_of (Some d) t
  pub context : IsContext v.shared.state.lists new

module _ (s : Setting) (e : ℕ) (u : Package) (cs : Contexts Context) (h : IsStanding s e u cs) where
  pub join-stands : (f a b : ℕ) (v : Package) (c d new : Context) → cs a ≡ Some c → cs b ≡ Some d → b ≢ a → IsJoin s f u v c d new
      → IsStanding s f v (put (put cs a (Some new)) b None)
  join-stands f a b v c d new is_a is_b ne k =
      let one : Contexts Context = put cs a (Some new) in
      let ds : Contexts Context = put one b None in
      let at_a : ds a ≡ Some new = put-other one b a None (λ e. ne (sym e)) ∙ put-same cs a (Some new) in
      let at_b : ds b ≡ None = put-same one b None in
      let there : (x : ℕ) → x ≢ a → x ≢ b → ds x ≡ cs x = λ x na nb. put-other one b x None nb ∙ put-other cs a x (Some new) na in
      record {
        made = k.made;
        code = k.code;
        parts = k.parts;
        locks = joins (free_locks u.shared.state.lists) (free_locks v.shared.state.lists) (λ x. locks_of (cs x)) (λ x. locks_of (ds x)) a b h.locks ne
            (λ l. ap (λ x. free_locks v.shared.state.lists l + locks_of x l) at_a ∙ k.locks l
            ∙ ap (λ x. free_locks u.shared.state.lists l + locks_of x l + locks_of (Some d) l) (sym is_a)
            ∙ ap (λ x. free_locks u.shared.state.lists l + locks_of (cs a) l + locks_of x l) (sym is_b))
            (λ l. ap (λ x. locks_of x l) at_b)
            (λ x l na nb. ap (λ y. locks_of y l) (there x na nb));
        threads =
            joins (threads_at_rest u.shared) (threads_at_rest v.shared) (λ x. threads_of u.shared.works (cs x))
            (λ x. threads_of v.shared.works (ds x)) a b h.threads ne
            (λ t. ap (λ x. threads_at_rest v.shared t + threads_of v.shared.works x t) at_a ∙ k.threads t
            ∙ ap (λ x. threads_at_rest u.shared t + threads_of u.shared.works x t + threads_of u.shared.works (Some d) t) (sym is_a)
            ∙ ap (λ x. threads_at_rest u.shared t + threads_of u.shared.works (cs a) t + threads_of u.shared.works x t) (sym is_b))
            (λ t. ap (λ x. threads_of v.shared.works x t) at_b)
            (λ x t na nb. ap (λ y. threads_of v.shared.works y t) (there x na nb)
            ∙ other_hand s e u cs h v.shared.works x (cs x) refl
            (λ l some. k.works l (ap (λ y. name_of y l) (sym is_a) ∙ name_none s e u cs h a x l na some)
            (ap (λ y. name_of y l) (sym is_b) ∙ name_none s e u cs h b x l nb some)
            (name_full s e u cs h x l some)) t);
        works = joins (empty_at u.shared.works) (empty_at v.shared.works) (λ x. name_of (cs x)) (λ x. name_of (ds x)) a b h.works ne
            (λ l. ap (λ x. empty_at v.shared.works l + name_of x l) at_a ∙ k.names l
            ∙ ap (λ x. empty_at u.shared.works l + name_of x l + name_of (Some d) l) (sym is_a)
            ∙ ap (λ x. empty_at u.shared.works l + name_of (cs a) l + name_of x l) (sym is_b))
            (λ l. ap (λ x. name_of x l) at_b)
            (λ x l na nb. ap (λ y. name_of y l) (there x na nb));
        places = k.places;
        carries = joins (not_carried u.shared) (not_carried v.shared) (λ x. carried_of (cs x)) (λ x. carried_of (ds x)) a b h.carries ne
            (λ t. ap (λ x. not_carried v.shared t + carried_of x t) at_a ∙ k.carries t
            ∙ ap (λ x. not_carried u.shared t + carried_of x t + carried_of (Some d) t) (sym is_a)
            ∙ ap (λ x. not_carried u.shared t + carried_of (cs a) t + carried_of x t) (sym is_b))
            (λ t. ap (λ x. carried_of x t) at_b)
            (λ x t na nb. ap (λ y. carried_of y t) (there x na nb));
        contexts = λ x y at. elim (cases_eq x b) [
          | inl same ↦ absurd (let none : None ≡ Some y = sym at_b ∙ ap ds (sym same) ∙ at in cc)
          | inr nb ↦ elim (cases_eq x a) [
            | inl same ↦
                let one : y ≡ new = same_Some y new (sym at ∙ ap ds same ∙ at_a) in
                subst (λ z. IsContext v.shared.state.lists z) (sym one) k.context
            | inr na ↦
                let was = h.contexts x y (sym (there x na nb) ∙ at) in
                subst (λ r. IsContext r y) (sym k.lists) was
          ]
        ];
      }
