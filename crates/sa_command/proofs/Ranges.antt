-- The numbers of a command are in their ranges, since their words are.
use Rattle.std.proofs.Common.{◌≡◌, ℕ, Bool, true, false, List, [], ◌∷◌, Option, Some, None, refl, subst, lit≤}
use Rattle.std.proofs.lemmas.Bool.{leb-true}
use Rattle.std.specs.Prelude.{IfSome, ⊤, nat_le, ◌&&◌, option_and_then, unwrap_or, codes, is_none, if◌then◌else◌}
use Rattle.std.specs.Option.{option_map}
use Rattle.std.specs.Str.{bytes_eq}
use Rattle.sa_base.specs.declared.limits.TheConstants.{MAX_BURST, MAX_EVENTS, DEFAULT_BUDGET, DEFAULT_BURST}
use Rattle.sa_command.specs.declared.command.ScheduleWord.TheVariants.{RoundRobin}
use Rattle.sa_base.specs.declared.package.PackageName.TheVariants.{FastThreads}
use Rattle.sa_command.specs.declared.command.Command.{Command}
use Rattle.sa_command.specs.declared.command.Command.TheVariants.{Run, Threads, Load, Migrate, Check, Vp, Debug, Explore, Kernel}
use Rattle.sa_command.specs.declared.options.Options.{Options}
use Rattle.sa_command.specs.declared.explore.TheConstants.{DEFAULT_STATES}
use Rattle.sa_states.specs.declared.TheConstants.{MAX_STATES}
use Rattle.sa_command.specs.declared.options.Settings.{Settings}
use Rattle.sa_text.specs.Number.{number_of}
use Rattle.sa_base.specs.Package.{package_of, rules_word}
use Rattle.sa_command.specs.Values.{within, number_within, schedule_of, give_of}
use Rattle.sa_command.specs.Commands.{with_schedule, with_budget, with_burst, with_package, with_states, with_give, with_option, settings_of, nothing_set, set_by, run_options, threads_options, turn_options, budget_option, explore_options, run_of, threads_of, load_of, migrate_of, check_of, vp_of, debug_of, explore_of, kernel_of, named, command_of}
use Rattle.sa_command.specs.Ranges.{IsFrom, IsInRange, CommandsAreInRange}

-- what holds of the value, if there is one, holds after a step that keeps it
bind : {A B : Type 0} (P : A → Type 0) (Q : B → Type 0) (k : A → Option B) (o : Option A) → IfSome o P
    → ((x : A) → P x → IfSome (k x) Q) → IfSome (option_and_then k o) Q
bind P Q k None h step = tt
bind P Q k (Some x) h step = step x h

mapped : {A B : Type 0} (P : A → Type 0) (Q : B → Type 0) (f : A → B) (o : Option A) → IfSome o P
    → ((x : A) → P x → Q (f x)) → IfSome (option_map f o) Q
mapped P Q f None h step = tt
mapped P Q f (Some x) h step = step x h

any : {A : Type 0} (o : Option A) → IfSome o (λ x. ⊤)
any None = tt
any (Some x) = tt

chosen : {A : Type 0} (P : A → Type 0) (b : Bool) (x y : Option A) → IfSome x P → IfSome y P → IfSome (if b then x else y) P
chosen P true x y h k = h
chosen P false x y h k = k

both : (a b : Bool) (n : ℕ) (P : ℕ → Type 0) → (a ≡ true → b ≡ true → P n) → IfSome (if a && b then Some n else None) P
both true true n P h = h refl refl
both true false n P h = tt
both false true n P h = tt
both false false n P h = tt

number-within : (low high : ℕ) (bytes : List ℕ) → IfSome (number_within low high bytes) (IsFrom low high)
number-within low high bytes =
    bind (λ n. ⊤) (IsFrom low high) (within low high) (number_of bytes) (any (number_of bytes))
    (λ n h. both (nat_le low n) (nat_le n high) n (IsFrom low high) (λ a b. record { least = leb-true low n a; most = leb-true n high b }))

-- the numbers that are set are in range
record AreFine (s : Settings) : Type 0 where
  budget : IfSome s.budget (IsFrom 1 MAX_EVENTS)
  burst : IfSome s.burst (IsFrom 1 MAX_BURST)
  states : IfSome s.states (IsFrom 1 MAX_STATES)

-- an option that is taken once, whose value is read so
option-range : {A : Type 0} (P : A → Type 0) (set : A → Settings) (taken : Bool) (value : Option A) → IfSome value P → ((x : A) → P x → AreFine (set x))
    → IfSome (if taken then option_map set value else None) AreFine
option-range P set taken value h keeps = chosen AreFine taken (option_map set value) None (mapped P AreFine set value h keeps) tt

with_option-range : (taken : Options) (s : Settings) (name value : List ℕ) → AreFine s → IfSome (with_option taken s name value) AreFine
with_option-range taken s name value h =
    let burst = option-range (IsFrom 1 MAX_BURST) (λ n. record s { burst = Some n }) (taken.burst && is_none s.burst) (number_within 1 MAX_BURST value)
    (number-within 1 MAX_BURST value) (λ n k. record { budget = h.budget; burst = k; states = h.states }) in
    let budget = option-range (IsFrom 1 MAX_EVENTS) (λ n. record s { budget = Some n }) (taken.budget && is_none s.budget) (number_within 1 MAX_EVENTS value)
    (number-within 1 MAX_EVENTS value) (λ n k. record { budget = k; burst = h.burst; states = h.states }) in
    let schedule = option-range (λ x. ⊤) (λ x. record s { schedule = Some x }) (taken.schedule && is_none s.schedule) (schedule_of value)
    (any (schedule_of value)) (λ x k. record { budget = h.budget; burst = h.burst; states = h.states }) in
    let user_level = option-range (λ x. ⊤) (λ x. record s { user_level = Some x }) (taken.user_level && is_none s.user_level) (package_of value)
    (any (package_of value)) (λ x k. record { budget = h.budget; burst = h.burst; states = h.states }) in
    let states = option-range (IsFrom 1 MAX_STATES) (λ n. record s { states = Some n }) (taken.states && is_none s.states) (number_within 1 MAX_STATES value)
    (number-within 1 MAX_STATES value) (λ n k. record { budget = h.budget; burst = h.burst; states = k }) in
    let give = option-range (λ x. ⊤) (λ x. record s { give = Some x }) (taken.give && is_none s.give) (give_of value)
    (any (give_of value)) (λ x k. record { budget = h.budget; burst = h.burst; states = h.states }) in
    let gives = if bytes_eq name (codes "--give") then with_give taken s value else None in
    let keeps = if bytes_eq name (codes "--states") then with_states taken s value else gives in
    let last = if bytes_eq name (codes "--package") then with_package taken s value else keeps in
    let behind = if bytes_eq name (codes "--burst") then with_burst taken s value else last in
    chosen AreFine (bytes_eq name (codes "--schedule")) (with_schedule taken s value)
    (if bytes_eq name (codes "--budget") then with_budget taken s value else behind) schedule
    (chosen AreFine (bytes_eq name (codes "--budget")) (with_budget taken s value) behind budget
    (chosen AreFine (bytes_eq name (codes "--burst")) (with_burst taken s value) last burst
    (chosen AreFine (bytes_eq name (codes "--package")) (with_package taken s value) keeps user_level
    (chosen AreFine (bytes_eq name (codes "--states")) (with_states taken s value) gives states
    (chosen AreFine (bytes_eq name (codes "--give")) (with_give taken s value) None give tt)))))

settings-range : (taken : Options) (s : Settings) (words : List (List ℕ)) → AreFine s → IfSome (settings_of taken s words) AreFine
settings-range taken s [] h = h
settings-range taken s (word ∷ []) h = tt
settings-range taken s (name ∷ value ∷ words) h =
    bind AreFine AreFine (λ t. settings_of taken t words) (with_option taken s name value) (with_option-range taken s name value h)
    (λ t k. settings-range taken t words k)

set-range : (taken : Options) (words : List (List ℕ)) → IfSome (set_by taken words) AreFine
set-range taken words = settings-range taken nothing_set words (record { budget = tt; burst = tt; states = tt })

-- the defaults are in range
budget-range : (budget : Option ℕ) → IfSome budget (IsFrom 1 MAX_EVENTS) → IsFrom 1 MAX_EVENTS (unwrap_or budget DEFAULT_BUDGET)
budget-range None h = record { least = lit≤ tt; most = lit≤ tt }
budget-range (Some n) h = h

burst-range : (burst : Option ℕ) → IfSome burst (IsFrom 1 MAX_BURST) → IsFrom 1 MAX_BURST (unwrap_or burst DEFAULT_BURST)
burst-range None h = record { least = lit≤ tt; most = lit≤ tt }
burst-range (Some n) h = h

states-range : (states : Option ℕ) → IfSome states (IsFrom 1 MAX_STATES) → IsFrom 1 MAX_STATES (unwrap_or states DEFAULT_STATES)
states-range None h = record { least = lit≤ tt; most = lit≤ tt }
states-range (Some n) h = h

run-range : (words : List (List ℕ)) → IfSome (run_of words) IsInRange
run-range words =
    mapped AreFine IsInRange (λ s. Run (unwrap_or s.schedule RoundRobin) (unwrap_or s.budget DEFAULT_BUDGET) (unwrap_or s.user_level FastThreads))
    (set_by run_options words) (set-range run_options words)
    (λ s h. budget-range s.budget h.budget)

threads-range : (words : List (List ℕ)) → IfSome (threads_of words) IsInRange
threads-range words =
    mapped AreFine IsInRange (λ s. Threads (unwrap_or s.budget DEFAULT_BUDGET) (unwrap_or s.burst DEFAULT_BURST))
    (set_by threads_options words) (set-range threads_options words)
    (λ s h. (budget-range s.budget h.budget, burst-range s.burst h.burst))

load-range : (words : List (List ℕ)) → IfSome (load_of words) IsInRange
load-range [] = tt
load-range (number ∷ words) =
    bind (λ n. ⊤) IsInRange (λ n. option_map (λ s. Load n (unwrap_or s.budget DEFAULT_BUDGET)) (set_by budget_option words))
    (number_of number) (any (number_of number))
    (λ n k. mapped AreFine IsInRange (λ s. Load n (unwrap_or s.budget DEFAULT_BUDGET)) (set_by budget_option words)
    (set-range budget_option words) (λ s h. budget-range s.budget h.budget))

migrate-range : (words : List (List ℕ)) → IfSome (migrate_of words) IsInRange
migrate-range [] = tt
migrate-range (number ∷ []) =
    mapped (IsFrom 1 MAX_EVENTS) IsInRange (λ n. Migrate n) (number_within 1 MAX_EVENTS number) (number-within 1 MAX_EVENTS number) (λ n h. h)
migrate-range (number ∷ word ∷ words) = tt

check-range : (words : List (List ℕ)) → IfSome (check_of words) IsInRange
check-range [] = tt
check-range (name ∷ []) = tt
check-range (name ∷ word ∷ []) =
    chosen IsInRange (bytes_eq name (codes "--package")) (option_map (λ named. Check named) (rules_word word)) None
    (mapped (λ x. ⊤) IsInRange (λ named. Check named) (rules_word word) (any (rules_word word)) (λ x k. tt)) tt
check-range (name ∷ word ∷ more ∷ words) = tt

vp-range : (words : List (List ℕ)) → IfSome (vp_of words) IsInRange
vp-range words =
    mapped AreFine IsInRange (λ s. Vp (unwrap_or s.schedule RoundRobin) (unwrap_or s.budget DEFAULT_BUDGET))
    (set_by turn_options words) (set-range turn_options words)
    (λ s h. budget-range s.budget h.budget)

debug-range : (words : List (List ℕ)) → IfSome (debug_of words) IsInRange
debug-range words =
    mapped AreFine IsInRange (λ s. Debug (unwrap_or s.budget DEFAULT_BUDGET)) (set_by budget_option words)
    (set-range budget_option words) (λ s h. budget-range s.budget h.budget)

explore-range : (words : List (List ℕ)) → IfSome (explore_of words) IsInRange
explore-range words =
    mapped AreFine IsInRange (λ s. Explore (unwrap_or s.states DEFAULT_STATES) (unwrap_or s.user_level FastThreads) s.give) (set_by explore_options words)
    (set-range explore_options words) (λ s h. states-range s.states h.states)

kernel-range : (words : List (List ℕ)) → IfSome (kernel_of words) IsInRange
kernel-range words =
    mapped AreFine IsInRange (λ s. Kernel (unwrap_or s.schedule RoundRobin) (unwrap_or s.budget DEFAULT_BUDGET))
    (set_by turn_options words) (set-range turn_options words)
    (λ s h. budget-range s.budget h.budget)

named-range : (name : List ℕ) (words : List (List ℕ)) → IfSome (named name words) IsInRange
named-range name words =
    let kernels = if bytes_eq name (codes "kernel") then kernel_of words else None in
    let explores = if bytes_eq name (codes "explore") then explore_of words else kernels in
    let debugs = if bytes_eq name (codes "debug") then debug_of words else explores in
    let virtual = if bytes_eq name (codes "vp") then vp_of words else debugs in
    let checks = if bytes_eq name (codes "check") then check_of words else virtual in
    let migrates = if bytes_eq name (codes "migrate") then migrate_of words else checks in
    let loads = if bytes_eq name (codes "load") then load_of words else migrates in
    let threads = if bytes_eq name (codes "threads") then threads_of words else loads in
    chosen IsInRange (bytes_eq name (codes "run")) (run_of words) threads (run-range words)
    (chosen IsInRange (bytes_eq name (codes "threads")) (threads_of words) loads (threads-range words)
    (chosen IsInRange (bytes_eq name (codes "load")) (load_of words) migrates (load-range words)
    (chosen IsInRange (bytes_eq name (codes "migrate")) (migrate_of words) checks (migrate-range words)
    (chosen IsInRange (bytes_eq name (codes "check")) (check_of words) virtual (check-range words)
    (chosen IsInRange (bytes_eq name (codes "vp")) (vp_of words) debugs (vp-range words)
    (chosen IsInRange (bytes_eq name (codes "debug")) (debug_of words) explores (debug-range words)
    (chosen IsInRange (bytes_eq name (codes "explore")) (explore_of words) kernels (explore-range words)
    (chosen IsInRange (bytes_eq name (codes "kernel")) (kernel_of words) None (kernel-range words) tt))))))))

command-range : (words : List (List ℕ)) → IfSome (command_of words) IsInRange
command-range [] = tt
command-range (name ∷ words) = named-range name words

pub in-range : CommandsAreInRange
in-range words command is = let P : Option Command → Type 0 = λ o. IfSome o IsInRange in subst P is (command-range words)
