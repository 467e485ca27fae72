-- What is appended piece by piece is appended as a whole.
use Rattle.std.proofs.Common.{◌≡◌, ℕ, zero, suc, ◌+◌, ◌<◌, ◌≤◌, List, [], ◌∷◌, ◌++◌, length, take, get_or, Result, Ok, Err, OnOk, sym, ap, ◌∙◌, subst, append_assoc, arith}
use Rattle.std.specs.List.{flat_map, range_with_len}
use Rattle.std.proofs.lemmas.List.{append-nil, take_all}
use Rattle.std.specs.Prelude.{codes, is_ok, if◌then◌else◌}
use Rattle.std.specs.declared.alloc.AllocError.{AllocError}
use Rattle.sa_shapes.specs.declared.look.Look.{Look}
use Rattle.sa_shapes.specs.declared.window.Window.{Window}
use Rattle.sa_svg.specs.declared.head.Sample.{Sample}
use Rattle.sa_svg.specs.declared.layout.Layout.{Layout}
use Rattle.sa_svg.specs.Head.{open_text, style_text, ground_text, legend_text, spaces_legend, opened, ticks, names, sample_text, head_text}
use Rattle.sa_svg.specs.Layout.{width_of, height_of}
use Rattle.sa_svg.specs.Markup.{titled}
use Rattle.sa_svg.specs.Words.{look_title}

-- one piece more
pub and-then : (old xs ys first second : List ℕ) → first ≡ old ++ xs → second ≡ first ++ ys → second ≡ old ++ (xs ++ ys)
and-then old xs ys first second a b = b ∙ ap (λ (zs : List ℕ). zs ++ ys) a ∙ append_assoc old xs ys

-- what an `Ok` tells
pub where-ok : {T E : Type 0} (result : Result T E) (new longer old : List ℕ) → new ≡ (if is_ok result then longer else old) → OnOk result (new ≡ longer)
where-ok (Ok x) new longer old is = is
where-ok (Err e) new longer old is = tt

-- a shape with its title
pub titled-appended : (title drawn old a b c d e : List ℕ) → a ≡ old ++ codes "<g><title>" → b ≡ a ++ title → c ≡ b ++ codes "</title>" → d ≡ c ++ drawn
    → e ≡ d ++ codes "</g>\n" → e ≡ old ++ titled title drawn
titled-appended title drawn old a b c d e is_a is_b is_c is_d is_e =
    and-then old _ _ d e (and-then old _ _ c d (and-then old _ _ b c (and-then old _ _ a b is_a is_b) is_c) is_d) is_e

-- all that comes before the shapes
pub head-appended : (l : Layout) (w : Window) (old a b c d e f g : List ℕ) → a ≡ old ++ open_text l → b ≡ a ++ style_text l → c ≡ b ++ ground_text l
    → d ≡ c ++ legend_text → e ≡ d ++ spaces_legend l.spaces → f ≡ e ++ ticks l w → g ≡ f ++ names l → g ≡ old ++ head_text l w
unfolding head_text
head-appended l w old a b c d e f g is_a is_b is_c is_d is_e is_f is_g =
    let ground = and-then old (open_text l ++ style_text l) (ground_text l) b c (and-then old (open_text l) (style_text l) a b is_a is_b) is_c in
    let spaces = and-then old _ (spaces_legend l.spaces) d e (and-then old _ legend_text c d ground is_d) is_e in
    and-then old _ (names l) f g (and-then old _ (ticks l w) e f spaces is_f) is_g

-- a sample that is this one
pub sample-as : {T : Type 0} (result : Result T AllocError) (old new : List ℕ) (entry one : Sample) → entry ≡ one
    → OnOk result (new ≡ old ++ sample_text one) → OnOk result (new ≡ old ++ sample_text entry)
sample-as result old new entry one is done = subst (λ (s : Sample). OnOk result (new ≡ old ++ sample_text s)) (sym is) done

-- the tag of the whole, of a size that is told in another way
pub opened-as : {T : Type 0} (result : Result T AllocError) (old new tag : List ℕ) (l : Layout) (width height : ℕ) → width ≡ width_of l → height ≡ height_of l
    → OnOk result (new ≡ old ++ opened tag width height) → OnOk result (new ≡ old ++ opened tag (width_of l) (height_of l))
opened-as result old new tag l width height wide high done =
    subst (λ (h : ℕ). OnOk result (new ≡ old ++ opened tag (width_of l) h)) high (subst (λ (w : ℕ). OnOk result (new ≡ old ++ opened tag w height)) wide done)

-- the title of a look that is this one
pub look-as : {T : Type 0} (result : Result T AllocError) (old new text : List ℕ) (look one : Look) → look ≡ one → text ≡ look_title one
    → OnOk result (new ≡ old ++ text) → OnOk result (new ≡ old ++ look_title look)
look-as result old new text look one is same done =
    subst (λ (t : List ℕ). OnOk result (new ≡ old ++ t)) (same ∙ ap look_title (sym is)) done

-- what is appended of one element after another, and one element more
pub list-more : {A : Type 0} (f : A → List ℕ) (xs : List A) (i : ℕ) (d : A) (old now later : List ℕ) → i < length xs → now ≡ old ++ flat_map f (take i xs)
    → later ≡ now ++ f (get_or xs i d) → later ≡ old ++ flat_map f (take (i + 1) xs)
list-more f xs i d old now later within before goes =
    let next : i + 1 ≡ suc i = omega arith in
    and-then old (flat_map f (take i xs)) (f (get_or xs i d)) now later before goes
    ∙ ap (λ (zs : List ℕ). old ++ zs) (sym (step xs i within)) ∙ ap (λ (k : ℕ). old ++ flat_map f (take k xs)) (sym next)
  where
    step : (ys : List _) (j : ℕ) → j < length ys → flat_map f (take (suc j) ys) ≡ flat_map f (take j ys) ++ f (get_or ys j d)
    step [] j less = absurd (omega arith)
    step (y ∷ ys) zero less = append-nil (f y)
    step (y ∷ ys) (suc j) less =
        ap (λ (zs : List ℕ). f y ++ zs) (step ys j (omega arith)) ∙ sym (append_assoc (f y) (flat_map f (take j ys)) (f (get_or ys j d)))

-- and of all of them
pub list-all : {A : Type 0} (f : A → List ℕ) (xs : List A) (i : ℕ) (old now : List ℕ) → length xs ≤ i → now ≡ old ++ flat_map f (take i xs)
    → now ≡ old ++ flat_map f xs
list-all f xs i old now all is = is ∙ ap (λ (ys : List _). old ++ flat_map f ys) (take_all i xs all)

-- and of all numbers below one
pub range-all : {A : Type 0} (f : ℕ → List A) (n i : ℕ) (old now : List A) → i ≡ n → now ≡ old ++ flat_map f (range_with_len 0 i)
    → now ≡ old ++ flat_map f (range_with_len 0 n)
range-all f n i old now all is = is ∙ ap (λ (k : ℕ). old ++ flat_map f (range_with_len 0 k)) all
