-- The bytes of a package's values and contexts say what they are of.
use Rattle.std.proofs.Common.{◌≡◌, ℕ, ◌+◌, Bool, true, false, ◌&&◌, not, ◌==◌, is_none, List, [], ◌∷◌, ◌++◌, length, map, get_or, ◌<◌, replicate, Option, Some, None, refl, sym, ap, ◌∙◌, arith, append_assoc, append-nil}
use Rattle.std.proofs.lemmas.Bool.{eqb-true, not-true, and_parts}
use Rattle.std.specs.List.{list_all, range_with_len}
use Rattle.std.specs.Option.{option_map}
use Rattle.sa_base.specs.declared.number.ProcNo.{ProcNo}
use Rattle.sa_base.specs.declared.number.ThreadNo.{ThreadNo}
use Rattle.sa_instr.specs.declared.limits.TheConstants.{REGISTERS}
use Rattle.std.proofs.lemmas.List.{ext_get_or, get_or-map}
use Rattle.std.proofs.lemmas.List.FromFn.{length-map-range_with_len, length-range_with_len, get_or-range_with_len}
use Rattle.sa_lists.specs.ReadyView.{ReadyView, rank_of}
use Rattle.sa_sync.specs.Sync.{Sync, Mutex, Semaphore}
use Rattle.sa_code.specs.declared.state.Frame.{Frame}
use Rattle.sa_code.specs.declared.state.PackageState.{PackageState}
use Rattle.sa_fast.specs.declared.threads.Block.{Block}
use Rattle.sa_fast.specs.declared.threads.KeptPlace.{KeptPlace}
use Rattle.sa_fast.specs.declared.threads.KeptPlace.TheVariants.{Unmade, Ready, Running, Waiting, Blocked, Carried, Done}
use Rattle.sa_fast.specs.declared.shared.Shared.{Shared}
use Rattle.sa_fast.specs.Rest.{is_unmade}
use Rattle.sa_fast.specs.Threads.{unmade}
use Rattle.sa_package_model.specs.declared.context.Context.{Context}
use Rattle.sa_package_model.specs.declared.context.ContextState.{ContextState}
use Rattle.sa_package_model.specs.declared.context.ContextState.TheVariants.{Code, Work, Hint, Return, User, Look}
use Rattle.sa_package_model.specs.declared.package.Package.{Package}
use Rattle.sa_abstract.specs.Setting.{Setting}
use Rattle.sa_package_model.specs.Laws.{IsMadeFor}
use Rattle.sa_package_model.specs.Stands.{fast_stands}
use Rattle.sa_prio_model.specs.Stands.{prio_stands}
use Rattle.sa_package_keys.specs.Codes.{IsPrefixCode, number, flag, thread_key, list, trimmed, padded}
use Rattle.sa_package_keys.specs.Values.{TellsValues}
use Rattle.sa_package_keys.specs.Packages.{list_no_key, frame_key, state_key, fast_context_key, prio_context_key, is_empty, is_zero, lists_key, mutex_key, semaphore_key, sync_key, place_no, block_key, is_new, shared_key, fast_value_key, prio_value_key, ranks_key, IsFast, IsPrio}
use Rattle.sa_package_keys.proofs.Codes.{thread-code, number-code, flag-code, number_or_none-code, list-code, padded-code, tagged-code, trimmed-same, apart3, apart5}

-- CONTEXTS
list_no-code : IsPrefixCode list_no_key
list_no-code s t r q same =
    let e = number_or_none-code (option_map (λ (n : ProcNo). n.0) s) (option_map (λ (n : ProcNo). n.0) t) r q same in (go s t e.0, e.1)
  where
    go : (s t : Option ProcNo) → option_map (λ (n : ProcNo). n.0) s ≡ option_map (λ (n : ProcNo). n.0) t → s ≡ t
    go None None is = refl
    go (Some a) (Some b) is = let e : a.0 ≡ b.0 = cc in ap (λ (n : ℕ). Some (let t : ProcNo = record { 0 = n } in t)) e
    go None (Some b) is = absurd (let e : None ≡ Some b.0 = is in cc)
    go (Some a) None is = absurd (let e : Some a.0 ≡ None = is in cc)

frame-code : IsPrefixCode frame_key
frame-code x y r s same =
    let one = number-code x.pc y.pc (list_no_key x.list ++ (flag x.own ++ (thread_key x.pushed ++ (thread_key x.thread ++ r))))
    (list_no_key y.list ++ (flag y.own ++ (thread_key y.pushed ++ (thread_key y.thread ++ s)))) (simp append_assoc at same) in
    let two = list_no-code x.list y.list (flag x.own ++ (thread_key x.pushed ++ (thread_key x.thread ++ r)))
    (flag y.own ++ (thread_key y.pushed ++ (thread_key y.thread ++ s))) one.1 in
    let three = flag-code x.own y.own (thread_key x.pushed ++ (thread_key x.thread ++ r)) (thread_key y.pushed ++ (thread_key y.thread ++ s)) two.1 in
    let four = thread-code x.pushed y.pushed (thread_key x.thread ++ r) (thread_key y.thread ++ s) three.1 in
    let five = thread-code x.thread y.thread r s four.1 in
    (same-frame x.pc y.pc x.list y.list x.own y.own x.pushed y.pushed x.thread y.thread one.0 two.0 three.0 four.0 five.0, five.1)
  where
    same-frame : (a b : ℕ) (l m : Option ProcNo) (i j : Bool) (t u v w : Option ThreadNo) → a ≡ b → l ≡ m → i ≡ j → t ≡ u → v ≡ w
        → (let f : Frame = record { pc = a; list = l; own = i; pushed = t; thread = v } in f) ≡ record { pc = b; list = m; own = j; pushed = u; thread = w }
    same-frame a b l m i j t u v w e1 e2 e3 e4 e5 = rw (e1, e2, e3, e4, e5) refl

abbrev state_tag : ContextState → ℕ
state_tag (Code f) = 0
state_tag (Work t) = 1
state_tag (Hint t) = 2
state_tag Return = 3
state_tag (User t) = 4
state_tag (Look looks) = 5

abbrev state_body : ContextState → List ℕ
state_body (Code f) = frame_key f
state_body (Work t) = thread_key t
state_body (Hint t) = thread_key t
state_body Return = []
state_body (User t) = number t.0
state_body (Look looks) = number looks

state_parts : (x : ContextState) → state_key x ≡ number (state_tag x) ++ state_body x
state_parts Return = sym (append-nil (number 3))
state_parts _ = refl

state_bodies : (x y : ContextState) (r s : List ℕ) → state_tag x ≡ state_tag y → state_body x ++ r ≡ state_body y ++ s → (x ≡ y) × (r ≡ s)
state_bodies (Code f) (Code g) r s tag same = let one = frame-code f g r s same in (ap (λ z. Code z) one.0, one.1)
state_bodies (Work t) (Work u) r s tag same = let one = thread-code t u r s same in (ap (λ z. Work z) one.0, one.1)
state_bodies (Hint t) (Hint u) r s tag same = let one = thread-code t u r s same in (ap (λ z. Hint z) one.0, one.1)
state_bodies Return Return r s tag same = (refl, same)
state_bodies (User t) (User u) r s tag same = let one = number-code t.0 u.0 r s same in (ap (λ (n : ℕ). User (record { 0 = n })) one.0, one.1)
state_bodies (Look i) (Look j) r s tag same = let one = number-code i j r s same in (ap (λ z. Look z) one.0, one.1)
state_bodies _ _ r s tag same = absurd (omega arith)

state-code : IsPrefixCode state_key
state-code = tagged-code state_tag state_body state_bodies state_key state_parts

pub fast-context-code : IsPrefixCode fast_context_key
fast-context-code x y r s same =
    let one = state-code x.state y.state (list frame_key x.sections ++ (thread_key x.work ++ r)) (list frame_key y.sections ++ (thread_key y.work ++ s))
    (simp append_assoc at same) in
    let two = list-code frame_key frame-code x.sections y.sections (thread_key x.work ++ r) (thread_key y.work ++ s) one.1 in
    let three = thread-code x.work y.work r s two.1 in
    (same-context x.state y.state x.sections y.sections x.work y.work one.0 two.0 three.0, three.1)
  where
    same-context : (a b : ContextState) (f g : List Frame) (t u : Option ThreadNo) → a ≡ b → f ≡ g → t ≡ u
        → (let c : Context = record { state = a; sections = f; work = t } in c) ≡ record { state = b; sections = g; work = u }
    same-context a b f g t u e1 e2 e3 = rw (e1, e2, e3) refl

pub prio-context-code : IsPrefixCode prio_context_key
prio-context-code x y r s same =
    let one = fast-context-code x.base y.base (flag x.urge ++ r) (flag y.urge ++ s)
    (sym (append_assoc (fast_context_key x.base) (flag x.urge) r) ∙ same ∙ append_assoc (fast_context_key y.base) (flag y.urge) s) in
    let two = flag-code x.urge y.urge r s one.1 in
    (ap (λ b. record x { base = b }) one.0 ∙ ap (λ u. record y { urge = u }) two.0, two.1)

-- WHAT IS SHARED
numbers-code : IsPrefixCode (list number)
numbers-code = list-code number number-code

queues-code : IsPrefixCode (padded is_empty (list number))
queues-code = padded-code (list number) numbers-code is_empty [] none
  where
    none : (xs : List ℕ) → is_empty xs ≡ true → xs ≡ []
    none [] is = refl
    none (x ∷ xs) is = absurd (let e : false ≡ true = is in cc)

zero-is : (n : ℕ) → is_zero n ≡ true → n ≡ 0
zero-is n is = eqb-true n 0 is

-- two values with the same ranks
lists-same : (x y : ReadyView) (r s : List ℕ) → x.ranks ≡ y.ranks → lists_key x ++ r ≡ lists_key y ++ s → (x ≡ y) × (r ≡ s)
lists-same x y r s ranks same =
    let one = list-code (list number) numbers-code x.lists y.lists (list flag x.locked ++ (number x.made ++ (number x.threads ++ r)))
    (list flag y.locked ++ (number y.made ++ (number y.threads ++ s))) (simp append_assoc at same) in
    let two = list-code flag flag-code x.locked y.locked (number x.made ++ (number x.threads ++ r)) (number y.made ++ (number y.threads ++ s)) one.1 in
    let three = number-code x.made y.made (number x.threads ++ r) (number y.threads ++ s) two.1 in
    let four = number-code x.threads y.threads r s three.1 in
    (same-lists x.lists y.lists x.locked y.locked x.made y.made x.threads y.threads x.ranks y.ranks one.0 two.0 three.0 four.0 ranks, four.1)
  where
    same-lists : (a b : List (List ℕ)) (c d : List Bool) (i j m n : ℕ) (e f : List ℕ) → a ≡ b → c ≡ d → i ≡ j → m ≡ n → e ≡ f
        → (let v : ReadyView = record { lists = a; locked = c; made = i; threads = m; ranks = e } in v)
        ≡ record { lists = b; locked = d; made = j; threads = n; ranks = f }
    same-lists a b c d i j m n e f e1 e2 e3 e4 e5 = rw (e1, e2, e3, e4, e5) refl

mutex-code : IsPrefixCode mutex_key
mutex-code x y r s same =
    let one = number_or_none-code x.holder y.holder (list number x.queue ++ r) (list number y.queue ++ s) (simp append_assoc at same) in
    let two = numbers-code x.queue y.queue r s one.1 in
    (ap (λ h. record x { holder = h }) one.0 ∙ ap (λ q. record y { queue = q }) two.0, two.1)

semaphore-code : IsPrefixCode semaphore_key
semaphore-code x y r s same =
    let one = number-code x.count y.count (list number x.queue ++ r) (list number y.queue ++ s) (simp append_assoc at same) in
    let two = numbers-code x.queue y.queue r s one.1 in
    (ap (λ n. record x { count = n }) one.0 ∙ ap (λ q. record y { queue = q }) two.0, two.1)

done-code : IsPrefixCode (padded not flag)
done-code = padded-code flag flag-code not false not-true

sync-code : IsPrefixCode sync_key
sync-code x y r s same =
    let queues = padded is_empty (list number) in
    let ends = padded not flag in
    let one = list-code mutex_key mutex-code x.mutexes y.mutexes
    (list semaphore_key x.semaphores ++ (queues x.joiners ++ (ends x.done ++ (list number x.cells ++ r))))
    (list semaphore_key y.semaphores ++ (queues y.joiners ++ (ends y.done ++ (list number y.cells ++ s)))) (simp append_assoc at same) in
    let two = list-code semaphore_key semaphore-code x.semaphores y.semaphores (queues x.joiners ++ (ends x.done ++ (list number x.cells ++ r)))
    (queues y.joiners ++ (ends y.done ++ (list number y.cells ++ s))) one.1 in
    let three = queues-code x.joiners y.joiners (ends x.done ++ (list number x.cells ++ r)) (ends y.done ++ (list number y.cells ++ s)) two.1 in
    let four = done-code x.done y.done (list number x.cells ++ r) (list number y.cells ++ s) three.1 in
    let five = numbers-code x.cells y.cells r s four.1 in
    (same-sync x.mutexes y.mutexes x.semaphores y.semaphores x.joiners y.joiners x.done y.done x.cells y.cells one.0 two.0 three.0 four.0 five.0, five.1)
  where
    same-sync : (a b : List Mutex) (c d : List Semaphore) (e f : List (List ℕ)) (g h : List Bool) (i j : List ℕ) → a ≡ b → c ≡ d → e ≡ f → g ≡ h → i ≡ j
        → (let v : Sync = record { mutexes = a; semaphores = c; joiners = e; done = g; cells = i } in v)
        ≡ record { mutexes = b; semaphores = d; joiners = f; done = h; cells = j }
    same-sync a b c d e f g h i j e1 e2 e3 e4 e5 = rw (e1, e2, e3, e4, e5) refl

place-same : (x y : KeptPlace) → place_no x ≡ place_no y → x ≡ y
place-same Unmade Unmade is = refl
place-same Ready Ready is = refl
place-same Running Running is = refl
place-same Waiting Waiting is = refl
place-same Blocked Blocked is = refl
place-same Carried Carried is = refl
place-same Done Done is = refl
place-same _ _ is = absurd (omega arith)

same-block : (a b c d : ℕ) (f g : List ℕ) (p q : KeptPlace) → a ≡ b → c ≡ d → f ≡ g → p ≡ q
    → (let v : Block = record { program = a; pc = c; regs = f; place = p } in v) ≡ record { program = b; pc = d; regs = g; place = q }
same-block a b c d f g p q e1 e2 e3 e4 = rw (e1, e2, e3, e4) refl

block-code : IsPrefixCode block_key
block-code x y r s same =
    let one = number-code (place_no x.place) (place_no y.place) (number x.program ++ (number x.pc ++ (list number x.regs ++ r)))
    (number y.program ++ (number y.pc ++ (list number y.regs ++ s))) (simp append_assoc at same) in
    let two = number-code x.program y.program (number x.pc ++ (list number x.regs ++ r)) (number y.pc ++ (list number y.regs ++ s)) one.1 in
    let three = number-code x.pc y.pc (list number x.regs ++ r) (list number y.regs ++ s) two.1 in
    let four = numbers-code x.regs y.regs r s three.1 in
    (same-block x.program y.program x.pc y.pc x.regs y.regs x.place y.place two.0 three.0 four.0 (place-same x.place y.place one.0), four.1)

-- a block that passes the test is that of a thread that was not made
all-zero : (rs : List ℕ) → list_all is_zero rs ≡ true → rs ≡ replicate (length rs) 0
all-zero [] all = refl
all-zero (r ∷ rs) all =
    let both = and_parts (is_zero r) (list_all is_zero rs) all in
    ap (λ n. n ∷ rs) (zero-is r both.0) ∙ ap (λ z. 0 ∷ z) (all-zero rs both.1)

unmade-is : (p : KeptPlace) → is_unmade p ≡ true → p ≡ Unmade
unmade-is Unmade is = refl
unmade-is _ is = absurd (let e : false ≡ true = is in cc)

new-is : (b : Block) → is_new b ≡ true → b ≡ unmade
new-is b is =
    let a1 = is_unmade b.place && b.program == 0 && b.pc == 0 && length b.regs == REGISTERS in
    let one = and_parts a1 (list_all is_zero b.regs) is in
    let a2 = is_unmade b.place && b.program == 0 && b.pc == 0 in
    let two = and_parts a2 (length b.regs == REGISTERS) one.0 in
    let three = and_parts (is_unmade b.place && b.program == 0) (b.pc == 0) two.0 in
    let four = and_parts (is_unmade b.place) (b.program == 0) three.0 in
    let count : length b.regs ≡ REGISTERS = eqb-true (length b.regs) REGISTERS two.1 in
    same-block b.program 0 b.pc 0 b.regs (replicate REGISTERS 0) b.place Unmade (zero-is b.program four.1) (zero-is b.pc three.1)
    (all-zero b.regs one.1 ∙ ap (λ n. replicate n (let z : ℕ = 0 in z)) count) (unmade-is b.place four.0)

blocks-code : IsPrefixCode (padded is_new block_key)
blocks-code = padded-code block_key block-code is_new unmade new-is

holders-code : IsPrefixCode (padded is_none thread_key)
holders-code = padded-code thread_key thread-code is_none None none
  where
    none : (t : Option ThreadNo) → is_none t ≡ true → t ≡ None
    none None is = refl
    none (Some t) is = absurd (let e : false ≡ true = is in cc)

-- two values with the same code, for one space, and with the same ranks
shared-same : (x y : Shared) (r s : List ℕ) → x.state.space ≡ y.state.space → x.state.code ≡ y.state.code → x.state.lists.ranks ≡ y.state.lists.ranks
    → shared_key x ++ r ≡ shared_key y ++ s → (x ≡ y) × (r ≡ s)
shared-same x y r s space code ranks same =
    let holders = padded is_none thread_key in
    let blocks = padded is_new block_key in
    let works = padded is_empty (list number) in
    let whole = sym (apart5 (lists_key x.state.lists) (holders x.state.holders) (sync_key x.sync) (blocks x.threads) (works x.works) r) ∙ same
    ∙ apart5 (lists_key y.state.lists) (holders y.state.holders) (sync_key y.sync) (blocks y.threads) (works y.works) s in
    let one = lists-same x.state.lists y.state.lists (holders x.state.holders ++ (sync_key x.sync ++ (blocks x.threads ++ (works x.works ++ r))))
    (holders y.state.holders ++ (sync_key y.sync ++ (blocks y.threads ++ (works y.works ++ s)))) ranks whole in
    let two = holders-code x.state.holders y.state.holders (sync_key x.sync ++ (blocks x.threads ++ (works x.works ++ r)))
    (sync_key y.sync ++ (blocks y.threads ++ (works y.works ++ s))) one.1 in
    let three = sync-code x.sync y.sync (blocks x.threads ++ (works x.works ++ r)) (blocks y.threads ++ (works y.works ++ s)) two.1 in
    let four = blocks-code x.threads y.threads (works x.works ++ r) (works y.works ++ s) three.1 in
    let five = queues-code x.works y.works r s four.1 in (
      same-shared x.state y.state x.sync y.sync x.threads y.threads x.works y.works
          (same-state x.state y.state space one.0 two.0 code) three.0 four.0 five.0,
      five.1,
    )
  where
    same-state : (x y : PackageState) → x.space ≡ y.space → x.lists ≡ y.lists → x.holders ≡ y.holders → x.code ≡ y.code → x ≡ y
    same-state x y e1 e2 e3 e4 =
        ap (λ z. record x { space = z }) e1 ∙ ap (λ z. record x { space = y.space; lists = z }) e2
        ∙ ap (λ z. record y { holders = z; code = x.code }) e3 ∙ ap (λ z. record y { code = z }) e4

    same-shared : (a b : PackageState) (c d : Sync) (e f : List Block) (g h : List (List ℕ)) → a ≡ b → c ≡ d → e ≡ f → g ≡ h
        → (let v : Shared = record { state = a; sync = c; threads = e; works = g } in v) ≡ record { state = b; sync = d; threads = f; works = h }
    same-shared a b c d e f g h e1 e2 e3 e4 = rw (e1, e2, e3, e4) refl

package-same : (s : Setting) (u v : Package) (r t : List ℕ) → IsMadeFor s u → IsMadeFor s v → u.shared.state.code ≡ v.shared.state.code
    → u.shared.state.lists.ranks ≡ v.shared.state.lists.ranks → fast_value_key u ++ r ≡ fast_value_key v ++ t → (u ≡ v) × (r ≡ t)
package-same s u v r t us vs code ranks same =
    let shared = shared-same u.shared v.shared r t (us.space ∙ sym vs.space) code ranks same in (
      ap (λ z. record u { def = z }) (us.def ∙ sym vs.def)
          ∙ ap (λ z. record u { def = v.def; processors = z }) (us.processors ∙ sym vs.processors)
          ∙ ap (λ z. record v { fetch = z; shared = u.shared }) (us.fetch ∙ sym vs.fetch)
          ∙ ap (λ z. record v { shared = z }) shared.0,
      shared.1,
    )

no-ranks : (xs ys : List ℕ) → length xs ≡ 0 → length ys ≡ 0 → xs ≡ ys
no-ranks [] [] e1 e2 = refl
no-ranks _ _ e1 e2 = absurd (omega arith)

pub fast-tells : TellsValues fast_stands IsFast fast_value_key
fast-tells s d e u v cs ds r t us vs mu mv same =
    package-same s u v r t us.made vs.made (us.code ∙ sym vs.code) (no-ranks u.shared.state.lists.ranks v.shared.state.lists.ranks mu.1 mv.1) same

-- ranks that are the same below their number
ranks-same : (xs ys : List ℕ) (m n : ℕ) (r s : List ℕ) → length xs ≡ m → length ys ≡ n → m ≡ n → ranks_key xs m ++ r ≡ ranks_key ys n ++ s
    → (xs ≡ ys) × (r ≡ s)
ranks-same xs ys m n r s count_x count_y numbers same =
    let left : List ℕ = map (rank_of xs) (range_with_len 0 m) in
    let right : List ℕ = map (rank_of ys) (range_with_len 0 n) in
    let one = numbers-code (trimmed is_zero left) (trimmed is_zero right) r s same in
    let count : length left ≡ length right = length-map-range_with_len (rank_of xs) 0 m ∙ numbers ∙ sym (length-map-range_with_len (rank_of ys) 0 n) in
    let all : left ≡ right = trimmed-same is_zero 0 zero-is left right count one.0 in (
      ext_get_or 0 xs ys (count_x ∙ numbers ∙ sym count_y) (λ i low.
          sym (at xs m i (omega arith)) ∙ ap (λ (z : List ℕ). get_or z i 0) all ∙ at ys n i (omega arith)),
      one.1,
    )
  where
    at : (zs : List ℕ) (n i : ℕ) → i < n → get_or (map (rank_of zs) (range_with_len 0 n)) i 0 ≡ get_or zs i 0
    at zs n i low =
        get_or-map (rank_of zs) (range_with_len 0 n) i 0 0 (let h : i < length (range_with_len 0 n) = omega (arith, length-range_with_len 0 n) in h)
        ∙ ap (λ k. get_or zs k 0) (get_or-range_with_len 0 n i 0 low ∙ (let e : 0 + i ≡ i = omega arith in e))

pub prio-tells : TellsValues prio_stands IsPrio prio_value_key
prio-tells s d e u v cs ds r t us vs mu mv same =
    let a = u.base.shared.state.lists in let b = v.base.shared.state.lists in
    let x = us.base.parts.threads in let y = vs.base.parts.threads in
    let whole = sym (apart3 (ranks_key a.ranks a.threads) (fast_value_key u.base) (list thread_key u.on) r) ∙ same
    ∙ apart3 (ranks_key b.ranks b.threads) (fast_value_key v.base) (list thread_key v.on) t in
    let ranks = ranks-same a.ranks b.ranks a.threads b.threads (fast_value_key u.base ++ (list thread_key u.on ++ r))
    (fast_value_key v.base ++ (list thread_key v.on ++ t)) (mu.1 ∙ sym x) (mv.1 ∙ sym y) (x ∙ sym y) whole in
    let base = package-same s u.base v.base (list thread_key u.on ++ r) (list thread_key v.on ++ t) us.base.made vs.base.made
    (us.base.code ∙ sym vs.base.code) ranks.0 ranks.1 in
    let on = list-code thread_key thread-code u.on v.on r t base.1 in
    (ap (λ z. record u { base = z }) base.0 ∙ ap (λ z. record v { on = z }) on.0, on.1)
