-- The text of a workload, part by part as it is printed.
use Rattle.std.proofs.Common.{◌≡◌, ℕ, ◌≤◌, cond, Result, Ok, Err, OnOk, List, [], ◌∷◌, ◌++◌, length, take, map, codes, decimal, refl, sym, ◌∙◌, ap, append_assoc}
use Rattle.std.specs.List.{flat_map, join_with_byte}
use Rattle.std.specs.Result.{is_ok}
use Rattle.std.proofs.lemmas.List.{append-nil, take_all}
use Rattle.std.proofs.lemmas.List.Concat.{flat_map-append}
use Rattle.std.proofs.lemmas.List.Folds.{flat_map-map}
use Rattle.sa_instr.specs.declared.instr.Instr.{Instr}
use Rattle.sa_spaces.specs.Space.{SpaceView}
use Rattle.sa_spaces.specs.Workload.{WorkloadView}
use Rattle.sa_spaces.specs.declared.workload.Evict.{Evict}
use Rattle.sa_lemmas.proofs.Texts.{join-spaced, appended_twice}
use Rattle.sa_workload.specs.Text.{instr_line, program_lines, space_line, space_lines, sem_line, absent_line, evict_line, turn_line, version_of, slice_lines, machine_lines, closing_lines, workload_lines, line_text, text_of}

-- the texts of lines that are made of lists, one after another
pub flat_map-flat_map : {A B C : Type 0} (f : B → List C) (g : A → List B) (xs : List A)
    → flat_map f (flat_map g xs) ≡ flat_map (λ x. flat_map f (g x)) xs
flat_map-flat_map f g [] = refl
flat_map-flat_map f g (x ∷ xs) = flat_map-append f (g x) (flat_map g xs) ∙ ap (λ ys. flat_map f (g x) ++ ys) (flat_map-flat_map f g xs)

-- a line of a word and of what is printed of some things, each after a space
pub pushed_line : {X : Type 0} (f : X → List ℕ) (out word : List ℕ) (xs : List X) (a b d : List ℕ)
    → a ≡ out ++ word → b ≡ a ++ flat_map (λ x. 32 ∷ f x) xs → d ≡ b ++ 10 ∷ [] → d ≡ out ++ line_text (word ∷ map f xs)
pushed_line f out word xs a b d p q r =
    r ∙ ap (λ (ys : List ℕ). ys ++ 10 ∷ []) (q ∙ ap (λ (ys : List ℕ). ys ++ flat_map (λ x. 32 ∷ f x) xs) p ∙ append_assoc out word (flat_map (λ x. 32 ∷ f x) xs)
    ∙ ap (λ (ys : List ℕ). out ++ (word ++ ys)) (sym (flat_map-map (λ w. 32 ∷ w) f xs)) ∙ ap (λ (ys : List ℕ). out ++ ys) (sym (join-spaced word (map f xs))))
    ∙ append_assoc out (join_with_byte 32 (word ∷ map f xs)) (10 ∷ [])

-- what a call added that answers Ok, where its contract says what it holds in both cases
pub ok_items : {T E : Type 0} (r : Result T E) (now added before : List ℕ) → now ≡ cond (is_ok r) added before → OnOk r (now ≡ added)
ok_items (Ok x) now added before e = e
ok_items (Err d) now added before e = tt

-- the line of an eviction whose numbers are these
pub evict_text : (e : Evict) (space page : ℕ) → space ≡ e.space.0 → page ≡ e.page
    → line_text (codes "evict" ∷ decimal e.event ∷ decimal space ∷ decimal page ∷ []) ≡ line_text (evict_line e)
evict_text e space page s p =
    ap (λ k. line_text (codes "evict" ∷ decimal e.event ∷ decimal k ∷ decimal page ∷ [])) s
    ∙ ap (λ k. line_text (codes "evict" ∷ decimal e.event ∷ decimal e.space.0 ∷ decimal k ∷ [])) p

-- the lines of a program
pub pushed_program : (program : List Instr) (out a b : List ℕ) (len pc : ℕ) → len ≡ length program
    → a ≡ out ++ line_text (codes "program" ∷ decimal len ∷ [])
    → b ≡ a ++ flat_map (λ i. line_text (instr_line i)) (take pc program) → length program ≤ pc
    → b ≡ out ++ flat_map line_text (program_lines program)
pushed_program program out a b len pc n p q h =
    let instrs : flat_map (λ i. line_text (instr_line i)) (take pc program) ≡ flat_map line_text (map instr_line program) =
    ap (flat_map (λ i. line_text (instr_line i))) (take_all pc program h) ∙ sym (flat_map-map line_text instr_line program) in
    appended_twice out (line_text (codes "program" ∷ decimal (length program) ∷ [])) (flat_map line_text (map instr_line program)) a b
    (p ∙ ap (λ k. out ++ line_text (codes "program" ∷ decimal k ∷ [])) n) (q ∙ ap (λ xs. a ++ xs) instrs)

-- the lines of a space
pub space_text : (version : ℕ) (s : SpaceView)
    → flat_map line_text (space_lines version s)
    ≡ line_text (space_line version s)
    ++ (flat_map (λ start. line_text (sem_line start)) s.sems
    ++ (flat_map (λ page. line_text (absent_line page)) s.absent ++ flat_map (λ p. flat_map line_text (program_lines p)) s.programs))
space_text version s =
    ap (λ xs. line_text (space_line version s) ++ xs)
    (flat_map-append line_text (map sem_line s.sems) (map absent_line s.absent ++ flat_map program_lines s.programs)
    ∙ (ap (λ xs. xs ++ flat_map line_text (map absent_line s.absent ++ flat_map program_lines s.programs)) (flat_map-map line_text sem_line s.sems)
    ∙ ap (λ xs. flat_map (λ start. line_text (sem_line start)) s.sems ++ xs)
    (flat_map-append line_text (map absent_line s.absent) (flat_map program_lines s.programs)
    ∙ (ap (λ xs. xs ++ flat_map line_text (flat_map program_lines s.programs)) (flat_map-map line_text absent_line s.absent)
    ∙ ap (λ xs. flat_map (λ page. line_text (absent_line page)) s.absent ++ xs) (flat_map-flat_map line_text program_lines s.programs)))))

pub pushed_space : (version : ℕ) (s : SpaceView) (out a b d e : List ℕ)
    → a ≡ out ++ line_text (space_line version s) → b ≡ a ++ flat_map (λ start. line_text (sem_line start)) s.sems
    → d ≡ b ++ flat_map (λ page. line_text (absent_line page)) s.absent
    → e ≡ d ++ flat_map (λ p. flat_map line_text (program_lines p)) s.programs → e ≡ out ++ flat_map line_text (space_lines version s)
pushed_space version s out a b d e p q r t =
    appended_twice out _ _ a e p (appended_twice a _ _ b e q (appended_twice b _ _ d e r t)) ∙ ap (λ xs. out ++ xs) (sym (space_text version s))

-- the lines after those of the spaces
pub pushed_closing : (w : WorkloadView) (out a b d : List ℕ)
    → a ≡ out ++ flat_map (λ e. line_text (evict_line e)) w.evictions → b ≡ a ++ flat_map (λ p. line_text (turn_line p)) w.turns
    → d ≡ b ++ line_text (codes "close" ∷ []) → d ≡ out ++ flat_map line_text (closing_lines w)
pushed_closing w out a b d p q r =
    let text : flat_map line_text (closing_lines w)
    ≡ flat_map (λ e. line_text (evict_line e)) w.evictions ++ (flat_map (λ p. line_text (turn_line p)) w.turns ++ line_text (codes "close" ∷ [])) =
    flat_map-append line_text (map evict_line w.evictions) (map turn_line w.turns ++ (codes "close" ∷ []) ∷ [])
    ∙ (ap (λ xs. xs ++ flat_map line_text (map turn_line w.turns ++ (codes "close" ∷ []) ∷ [])) (flat_map-map line_text evict_line w.evictions)
    ∙ ap (λ xs. flat_map (λ e. line_text (evict_line e)) w.evictions ++ xs)
    (flat_map-append line_text (map turn_line w.turns) ((codes "close" ∷ []) ∷ [])
    ∙ ap (λ xs. xs ++ line_text (codes "close" ∷ [])) (flat_map-map line_text turn_line w.turns))) in
    appended_twice out _ _ a d p (appended_twice a _ _ b d q r) ∙ ap (λ xs. out ++ xs) (sym text)

-- the lines before those of the spaces
pub pushed_machine : (w : WorkloadView) (version processors fetch slice count : ℕ) (out a b d e f : List ℕ)
    → version ≡ version_of w → processors ≡ w.processors → fetch ≡ w.fetch → slice ≡ w.slice → count ≡ length w.spaces
    → a ≡ out ++ line_text (codes "workload" ∷ decimal version ∷ []) → b ≡ a ++ line_text (codes "processors" ∷ decimal processors ∷ [])
    → d ≡ b ++ line_text (codes "fetch" ∷ decimal fetch ∷ []) → e ≡ d ++ flat_map line_text (slice_lines version slice)
    → f ≡ e ++ line_text (codes "spaces" ∷ decimal count ∷ []) → f ≡ out ++ flat_map line_text (machine_lines w)
pushed_machine w version processors fetch slice count out a b d e f v n m l k p q r s t =
    let spaces : List (List ℕ) = codes "spaces" ∷ decimal (length w.spaces) ∷ [] in
    let tail : flat_map line_text (slice_lines (version_of w) w.slice ++ spaces ∷ []) ≡ flat_map line_text
    (slice_lines (version_of w) w.slice) ++ line_text spaces =
    flat_map-append line_text (slice_lines (version_of w) w.slice) (spaces ∷ [])
    ∙ ap (λ xs. flat_map line_text (slice_lines (version_of w) w.slice) ++ xs) (append-nil (line_text spaces)) in
    appended_twice out _ _ a f (p ∙ ap (λ x. out ++ line_text (codes "workload" ∷ decimal x ∷ [])) v)
    (appended_twice a _ _ b f (q ∙ ap (λ x. a ++ line_text (codes "processors" ∷ decimal x ∷ [])) n)
    (appended_twice b _ _ d f (r ∙ ap (λ x. b ++ line_text (codes "fetch" ∷ decimal x ∷ [])) m)
    (appended_twice d _ _ e f
    (s ∙ (ap (λ x. d ++ flat_map line_text (slice_lines x slice)) v ∙ ap (λ x. d ++ flat_map line_text (slice_lines (version_of w) x)) l))
    (t ∙ ap (λ x. e ++ line_text (codes "spaces" ∷ decimal x ∷ [])) k)
    ∙ ap (λ xs. d ++ xs) (sym tail))))

-- the whole text
pub pushed_all : (w : WorkloadView) (a b d : List ℕ) → a ≡ [] ++ flat_map line_text (machine_lines w)
    → b ≡ a ++ flat_map (λ s. flat_map line_text (space_lines (version_of w) s)) w.spaces → d ≡ b ++ flat_map line_text (closing_lines w)
    → d ≡ text_of w
unfolding text_of workload_lines
pushed_all w a b d p q r =
    let spaces : List (List (List ℕ)) = flat_map (space_lines (version_of w)) w.spaces in
    let text : flat_map line_text (machine_lines w ++ (spaces ++ closing_lines w))
    ≡ flat_map line_text (machine_lines w)
    ++ (flat_map (λ s. flat_map line_text (space_lines (version_of w) s)) w.spaces ++ flat_map line_text (closing_lines w)) =
    flat_map-append line_text (machine_lines w) (spaces ++ closing_lines w)
    ∙ ap (λ xs. flat_map line_text (machine_lines w) ++ xs)
    (flat_map-append line_text spaces (closing_lines w)
    ∙ ap (λ xs. xs ++ flat_map line_text (closing_lines w)) (flat_map-flat_map line_text (space_lines (version_of w)) w.spaces)) in
    appended_twice [] _ _ a d p (appended_twice a _ _ b d q r) ∙ sym text
