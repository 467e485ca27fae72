-- What a key says of an outlook.
use Rattle.std.proofs.Common.{◌≡◌, ℕ, zero, suc, ◌+◌, ◌<◌, ◌≤◌, Bool, false, List, [], ◌∷◌, ◌++◌, length, Option, Some, None, slice_get, slice_index, slice_index_or, refl, sym, ap, ◌∙◌, subst, inl, inr, arith, append_assoc, append-nil}
use Rattle.std.proofs.lemmas.Bool.{cases_eq}
use Rattle.std.specs.List.{flat_map, range_with_len}
use Rattle.sa_base.specs.declared.number.ThreadNo.{ThreadNo}
use Rattle.sa_base.specs.declared.limits.TheConstants.{MAX_SPACES}
use Rattle.sa_outlook.specs.Nameless.{PlainStopped, NamelessNote, NamelessKind, NamelessIo}
use Rattle.sa_outlook.specs.Outlook.{Outlook}
use Rattle.sa_package_keys.specs.Codes.{IsPrefixCode, number, flag, number_or_none, thread_key, space_no_key, optional, list}
use Rattle.sa_keys.specs.Key.{stopped_key, note_key, kind_key, io_key, processor_key, space_key, taken_key, key_of}
use Rattle.sa_package_keys.proofs.Codes.{number-code, flag-code, number_or_none-code, thread-code, space_no-code, optional-code, list-code, tagged-code, apart4}

-- codes of n numbers, each of which tells a fact
pub each-tells : (f g : ℕ → List ℕ) (P : ℕ → Type 0) → ((p : ℕ) (r s : List ℕ) → f p ++ r ≡ g p ++ s → P p × (r ≡ s))
    → (a n : ℕ) (r s : List ℕ) → flat_map f (range_with_len a n) ++ r ≡ flat_map g (range_with_len a n) ++ s
    → ((p : ℕ) → a ≤ p → p < a + n → P p) × (r ≡ s)
each-tells f g P tells a zero r s same = (λ p low high. absurd (omega arith), same)
each-tells f g P tells a (suc n) r s same =
    let first = tells a (flat_map f (range_with_len (a + 1) n) ++ r) (flat_map g (range_with_len (a + 1) n) ++ s) (simp append_assoc at same) in
    let rest = each-tells f g P tells (a + 1) n r s first.1 in (
      λ p low high. elim (cases_eq p a) [
        | inl e ↦ subst P (sym e) first.0
        | inr ne ↦ rest.0 p (omega arith) (omega arith)
      ],
      rest.1,
    )

-- codes of two lists of one length, each place of which tells
pub lists-tell : {A : Type 0} (code : A → List ℕ) (xs ys : List A) (r s : List ℕ) → length xs ≡ length ys
    → ((i : ℕ) (x y : A) (r s : List ℕ) → slice_get xs i ≡ Some x → slice_get ys i ≡ Some y → code x ++ r ≡ code y ++ s → (x ≡ y) × (r ≡ s))
    → flat_map code xs ++ r ≡ flat_map code ys ++ s → (xs ≡ ys) × (r ≡ s)
lists-tell code [] [] r s count tells same = (refl, same)
lists-tell code (x ∷ xs) (y ∷ ys) r s count tells same =
    let first = tells 0 x y (flat_map code xs ++ r) (flat_map code ys ++ s) refl refl (simp append_assoc at same) in
    let rest = lists-tell code xs ys r s (let e : length xs ≡ length ys = omega arith in e) (λ i u v p q is_u is_v. tells (suc i) u v p q is_u is_v) first.1 in
    (ap (λ z. z ∷ xs) first.0 ∙ ap (λ z. y ∷ z) rest.0, rest.1)
lists-tell code [] (y ∷ ys) r s count tells same = absurd (omega arith)
lists-tell code (x ∷ xs) [] r s count tells same = absurd (omega arith)

module _ {D : Type 0} (ctx : D → List ℕ) (ctx-code : IsPrefixCode ctx) where
  pub stopped-code : IsPrefixCode (stopped_key ctx)
  stopped-code x y r s same =
      let one = ctx-code x.ctx y.ctx (thread_key x.thread ++ (flag x.idle ++ r)) (thread_key y.thread ++ (flag y.idle ++ s)) (simp append_assoc at same) in
      let two = thread-code x.thread y.thread (flag x.idle ++ r) (flag y.idle ++ s) one.1 in
      let three = flag-code x.idle y.idle r s two.1 in
      (same-stopped x.ctx y.ctx x.thread y.thread x.idle y.idle one.0 two.0 three.0, three.1)
    where
      same-stopped : (c d : D) (t u : Option ThreadNo) (i j : Bool) → c ≡ d → t ≡ u → i ≡ j
          → (let p : PlainStopped D = record { ctx = c; thread = t; idle = i } in p) ≡ record { ctx = d; thread = u; idle = j }
      same-stopped c d t u i j e1 e2 e3 = rw (e1, e2, e3) refl

  held-code : IsPrefixCode (optional (stopped_key ctx))
  held-code = optional-code (stopped_key ctx) stopped-code

  abbrev held_key : Option (PlainStopped D) → List ℕ
  held_key = optional (stopped_key ctx)

  -- NOTICES, by their tags
  abbrev note_tag : NamelessNote D → ℕ
  note_tag (NamelessNote.added p) = 0
  note_tag (NamelessNote.preempted held) = 1
  note_tag NamelessNote.blocked = 2
  note_tag (NamelessNote.unblocked held) = 3

  abbrev note_body : NamelessNote D → List ℕ
  note_body (NamelessNote.added p) = number p.0
  note_body (NamelessNote.preempted held) = held_key held
  note_body NamelessNote.blocked = []
  note_body (NamelessNote.unblocked held) = held_key held

  note_parts : (x : NamelessNote D) → note_key ctx x ≡ number (note_tag x) ++ note_body x
  note_parts (NamelessNote.added p) = refl
  note_parts (NamelessNote.preempted held) = refl
  note_parts NamelessNote.blocked = sym (append-nil (number 2))
  note_parts (NamelessNote.unblocked held) = refl

  note_bodies : (x y : NamelessNote D) (r s : List ℕ) → note_tag x ≡ note_tag y → note_body x ++ r ≡ note_body y ++ s → (x ≡ y) × (r ≡ s)
  note_bodies (NamelessNote.added p) (NamelessNote.added q) r s tag same =
      let one = number-code p.0 q.0 r s same in (ap (λ (n : ℕ). NamelessNote.added (record { 0 = n })) one.0, one.1)
  note_bodies (NamelessNote.preempted x) (NamelessNote.preempted y) r s tag same =
      let one = held-code x y r s same in (ap (λ h. NamelessNote.preempted h) one.0, one.1)
  note_bodies NamelessNote.blocked NamelessNote.blocked r s tag same = (refl, same)
  note_bodies (NamelessNote.unblocked x) (NamelessNote.unblocked y) r s tag same =
      let one = held-code x y r s same in (ap (λ h. NamelessNote.unblocked h) one.0, one.1)
  note_bodies _ _ r s tag same = absurd (omega arith)

  pub note-code : IsPrefixCode (note_key ctx)
  note-code = tagged-code note_tag note_body note_bodies (note_key ctx) note_parts

  -- I/Os
  abbrev kind_tag : NamelessKind D → ℕ
  kind_tag (NamelessKind.plain s held) = 0
  kind_tag (NamelessKind.page s held page) = 1
  kind_tag (NamelessKind.upcall s) = 2

  abbrev kind_body : NamelessKind D → List ℕ
  kind_body (NamelessKind.plain s held) = number s.0 ++ held_key held
  kind_body (NamelessKind.page s held page) = number s.0 ++ held_key held ++ number page
  kind_body (NamelessKind.upcall s) = number s.0

  kind_parts : (x : NamelessKind D) → kind_key ctx x ≡ number (kind_tag x) ++ kind_body x
  kind_parts (NamelessKind.plain s held) = append_assoc (number 0) (number s.0) (held_key held)
  kind_parts (NamelessKind.page s held page) = apart4 (number 1) (number s.0) (held_key held) (number page)
  kind_parts (NamelessKind.upcall s) = refl

  kind_bodies : (x y : NamelessKind D) (r s : List ℕ) → kind_tag x ≡ kind_tag y → kind_body x ++ r ≡ kind_body y ++ s → (x ≡ y) × (r ≡ s)
  kind_bodies (NamelessKind.plain a x) (NamelessKind.plain b y) r s tag same =
      let one = number-code a.0 b.0 (held_key x ++ r) (held_key y ++ s) (simp append_assoc at same) in
      let two = held-code x y r s one.1 in
      (ap (λ (n : ℕ). NamelessKind.plain (record { 0 = n }) x) one.0 ∙ ap (λ h. NamelessKind.plain b h) two.0, two.1)
  kind_bodies (NamelessKind.page a x j) (NamelessKind.page b y k) r s tag same =
      let one = number-code a.0 b.0 (held_key x ++ (number j ++ r)) (held_key y ++ (number k ++ s)) (simp append_assoc at same) in
      let two = held-code x y (number j ++ r) (number k ++ s) one.1 in
      let three = number-code j k r s two.1 in (
        ap (λ (n : ℕ). NamelessKind.page (record { 0 = n }) x j) one.0 ∙ ap (λ h. NamelessKind.page b h j) two.0 ∙ ap (λ n. NamelessKind.page b y n) three.0,
        three.1,
      )
  kind_bodies (NamelessKind.upcall a) (NamelessKind.upcall b) r s tag same =
      let one = number-code a.0 b.0 r s same in (ap (λ (n : ℕ). NamelessKind.upcall (record { 0 = n })) one.0, one.1)
  kind_bodies _ _ r s tag same = absurd (omega arith)

  kind-code : IsPrefixCode (kind_key ctx)
  kind-code = tagged-code kind_tag kind_body kind_bodies (kind_key ctx) kind_parts

  pub io-code : IsPrefixCode (io_key ctx)
  io-code x y r s same =
      let one = number-code x.left y.left (kind_key ctx x.kind ++ r) (kind_key ctx y.kind ++ s) (simp append_assoc at same) in
      let two = kind-code x.kind y.kind r s one.1 in (same-io x.left y.left x.kind y.kind one.0 two.0, two.1)
    where
      same-io : (a b : ℕ) (j k : NamelessKind D) → a ≡ b → j ≡ k → (let p : NamelessIo D = record { left = a; kind = j } in p) ≡ record { left = b; kind = k }
      same-io a b j k e1 e2 = rw (e1, e2) refl

  -- PROCESSORS and spaces
  module _ {U : Type 0} (o q : Outlook U D) where
    pub record IsSameOn (p : ℕ) : Type 0 where
      pub owner : slice_index_or o.owners p None ≡ slice_index_or q.owners p None
      pub aim : slice_index_or o.aims p None ≡ slice_index_or q.aims p None
      pub raised : o.raised p ≡ q.raised p
      pub mark : slice_index_or o.marks p false ≡ slice_index_or q.marks p false
      pub context : o.contexts p ≡ q.contexts p

    pub processor-tells : (p : ℕ) (r s : List ℕ) → processor_key ctx o p ++ r ≡ processor_key ctx q p ++ s → IsSameOn p × (r ≡ s)
    processor-tells p r s same =
        let a1 = slice_index_or o.owners p None in let b1 = slice_index_or q.owners p None in
        let a2 = slice_index_or o.aims p None in let b2 = slice_index_or q.aims p None in
        let a3 = o.raised p in let b3 = q.raised p in
        let a4 = slice_index_or o.marks p false in let b4 = slice_index_or q.marks p false in
        let a5 = o.contexts p in let b5 = q.contexts p in
        let one = space_no-code a1 b1 (space_no_key a2 ++ (flag a3 ++ (flag a4 ++ (optional ctx a5 ++ r))))
        (space_no_key b2 ++ (flag b3 ++ (flag b4 ++ (optional ctx b5 ++ s)))) (simp append_assoc at same) in
        let two = space_no-code a2 b2 (flag a3 ++ (flag a4 ++ (optional ctx a5 ++ r))) (flag b3 ++ (flag b4 ++ (optional ctx b5 ++ s))) one.1 in
        let three = flag-code a3 b3 (flag a4 ++ (optional ctx a5 ++ r)) (flag b4 ++ (optional ctx b5 ++ s)) two.1 in
        let four = flag-code a4 b4 (optional ctx a5 ++ r) (optional ctx b5 ++ s) three.1 in
        let five = optional-code ctx ctx-code a5 b5 r s four.1 in
        (record { owner = one.0; aim = two.0; raised = three.0; mark = four.0; context = five.0 }, five.1)

    pub record IsSameIn (s : ℕ) : Type 0 where
      pub demand : slice_index o.demands s ≡ slice_index q.demands s
      pub page : slice_index o.pages s ≡ slice_index q.pages s
      pub untold : o.untold s ≡ q.untold s

    pub space-tells : (n : ℕ) (r s : List ℕ) → space_key ctx o n ++ r ≡ space_key ctx q n ++ s → IsSameIn n × (r ≡ s)
    space-tells n r s same =
        let a1 = slice_index o.demands n in let b1 = slice_index q.demands n in
        let a2 = slice_index o.pages n in let b2 = slice_index q.pages n in
        let notes = list (note_key ctx) in
        let one = number-code a1 b1 (number a2 ++ (notes (o.untold n) ++ r)) (number b2 ++ (notes (q.untold n) ++ s)) (simp append_assoc at same) in
        let two = number-code a2 b2 (notes (o.untold n) ++ r) (notes (q.untold n) ++ s) one.1 in
        let three = list-code (note_key ctx) note-code (o.untold n) (q.untold n) r s two.1 in
        (record { demand = one.0; page = two.0; untold = three.0 }, three.1)

    abbrev pub IsSameTaken : ℕ → Type 0
    IsSameTaken n = o.taken n ≡ q.taken n

    -- what all of the key tells, where the two are of one workload
    pub record Told : Type 0 where
      pub processors : (p : ℕ) → p < length o.owners → IsSameOn p
      pub users : o.users ≡ q.users
      pub spaces : (s : ℕ) → s < length o.demands → IsSameIn s
      pub taken : (s : ℕ) → s < MAX_SPACES → IsSameTaken s
      pub ios : o.ios ≡ q.ios
      pub first : o.first ≡ q.first
      pub beat : o.beat ≡ q.beat
      pub until : o.until ≡ q.until

    pub key-tells : (user : U → List ℕ) → length o.owners ≡ length q.owners → length o.users ≡ length q.users → length o.demands ≡ length q.demands
        → ((i : ℕ) (x y : U) (r s : List ℕ) → slice_get o.users i ≡ Some x → slice_get q.users i ≡ Some y → user x ++ r ≡ user y ++ s → (x ≡ y) × (r ≡ s))
        → key_of user ctx o ≡ key_of user ctx q → Told
    key-tells user owners users demands tells same =
        let n = length o.owners in let k = length o.demands in
        let rest1 : Outlook U D → List ℕ = λ x. number x.beat ++ number_or_none x.until in
        let rest2 : Outlook U D → List ℕ = λ x. list (io_key ctx) x.ios ++ (number x.first ++ rest1 x) in
        let rest3 : Outlook U D → List ℕ = λ x. flat_map (taken_key x) (range_with_len 0 MAX_SPACES) ++ rest2 x in
        let rest4 : Outlook U D → List ℕ = λ x. flat_map (space_key ctx x) (range_with_len 0 (length x.demands)) ++ rest3 x in
        let rest5 : Outlook U D → List ℕ = λ x. flat_map user x.users ++ rest4 x in
        let all : (x : Outlook U D) → key_of user ctx x ≡ flat_map (processor_key ctx x) (range_with_len 0 (length x.owners)) ++ rest5 x =
        λ x. simp append_assoc refl in
        let whole : flat_map (processor_key ctx o) (range_with_len 0 n) ++ rest5 o ≡ flat_map (processor_key ctx q) (range_with_len 0 n) ++ rest5 q =
        sym (all o) ∙ same ∙ all q ∙ ap (λ m. flat_map (processor_key ctx q) (range_with_len 0 m) ++ rest5 q) (sym owners) in
        let one = each-tells (processor_key ctx o) (processor_key ctx q) IsSameOn processor-tells 0 n (rest5 o) (rest5 q) whole in
        let two = lists-tell user o.users q.users (rest4 o) (rest4 q) users tells one.1 in
        let three = each-tells (space_key ctx o) (space_key ctx q) IsSameIn space-tells 0 k (rest3 o) (rest3 q)
        (two.1 ∙ ap (λ m. flat_map (space_key ctx q) (range_with_len 0 m) ++ rest3 q) (sym demands)) in
        let four = each-tells (taken_key o) (taken_key q) IsSameTaken (λ i r s e. number-code (o.taken i) (q.taken i) r s e) 0 MAX_SPACES (rest2 o) (rest2 q) three.1 in
        let five = list-code (io_key ctx) io-code o.ios q.ios (number o.first ++ rest1 o) (number q.first ++ rest1 q) four.1 in
        let six = number-code o.first q.first (rest1 o) (rest1 q) five.1 in
        let seven = number-code o.beat q.beat (number_or_none o.until) (number_or_none q.until) six.1 in
        let eight = number_or_none-code o.until q.until [] [] (ap (λ z. z ++ []) seven.1) in
        record {
          processors = λ p high. one.0 p (omega arith) (omega arith);
          users = two.0;
          spaces = λ s high. three.0 s (omega arith) (omega arith);
          taken = λ s high. four.0 s (omega arith) (omega arith);
          ios = five.0;
          first = six.0;
          beat = seven.0;
          until = eight.0;
        }
