-- What the program is asked to draw: options of two words each, in any order and each at most once.
use Rattle.std.specs.Option.{option_map}
use Rattle.std.specs.Prelude.{ℕ, ◌^◌, ◌-◌, Bool, true, not, is_none, ◌&&◌, ◌||◌, List, [], ◌∷◌, codes, Option, Some, None, option_and_then, unwrap_or, is_some, nat_le, if◌then◌else◌}
use Rattle.std.specs.Str.{bytes_eq}
use Rattle.sa_text.specs.Number.{number_of}
use Rattle.sa_svg.specs.declared.layout.TheConstants.{DEFAULT_WIDTH, MAX_WIDTH, MIN_WIDTH}
use Rattle.sa_base.specs.declared.package.RulesName.{RulesName}
use Rattle.sa_base.specs.declared.package.RulesName.TheVariants.{FastThreads}
use Rattle.sa_base.specs.Package.{rules_word}
use Rattle.sa_picture.specs.declared.request.Form.{Form}
use Rattle.sa_picture.specs.declared.request.Form.TheVariants as form
use Rattle.sa_picture.specs.declared.request.FormWord.{FormWord}
use Rattle.sa_picture.specs.declared.request.FormWord.TheVariants.{Svg, Events, Page}
use Rattle.sa_drawing.specs.declared.text.Drawing.TheVariants as drawing
use Rattle.sa_drawing.specs.declared.text.Part.{Part}
use Rattle.sa_picture.specs.declared.request.Request.{Request}
use Rattle.sa_picture.specs.declared.request.Settings.{Settings}

-- a number from the one to the other, that was not set before
abbrev pub within : ℕ → ℕ → ℕ → Option ℕ
within low high n = if nat_le low n && nat_le n high then Some n else None

abbrev pub set_once : Option ℕ → ℕ → ℕ → List ℕ → Option ℕ
set_once old low high word = if is_some old then None else option_and_then (within low high) (number_of word)

-- the words of forms
abbrev pub form_in : List ℕ → Option FormWord
form_in word = if bytes_eq word (codes "svg") then Some Svg else (if bytes_eq word (codes "events") then Some Events else (if bytes_eq word (codes "page") then Some Page else None))

abbrev pub with_form : Settings → List ℕ → Option Settings
with_form s word = if is_some s.form then None else option_map (λ f. record s { form = Some f }) (form_in word)

abbrev pub with_package : Settings → List ℕ → Option Settings
with_package s word = if is_some s.rules then None else option_map (λ r. record s { rules = Some r }) (rules_word word)

--   --form    what is written: svg, as where none is named, events or page
--   --package by whose rules a page's trace is judged: fast, as where none is named, or prio
--   --from    the first event that is drawn, any number of 64 bits
--   --to      the last one
--   --width   how many pixels wide the picture is to be
abbrev pub with_option : Settings → List ℕ → List ℕ → Option Settings
with_option s name value =
    if bytes_eq name (codes "--from") then option_map (λ n. record s { from = Some n }) (set_once s.from 0 (2 ^ 64 - 1) value)
    else (if bytes_eq name (codes "--to") then option_map (λ n. record s { to = Some n }) (set_once s.to 0 (2 ^ 64 - 1) value)
    else (if bytes_eq name (codes "--width") then option_map (λ n. record s { width = Some n }) (set_once s.width MIN_WIDTH MAX_WIDTH value)
    else (if bytes_eq name (codes "--form") then with_form s value
    else (if bytes_eq name (codes "--package") then with_package s value
    else None))))

-- the settings after these words, which come in pairs
abbrev pub settings_of : Settings → List (List ℕ) → Option Settings
settings_of s [] = Some s
settings_of s (word ∷ []) = None
settings_of s (name ∷ value ∷ words) = option_and_then (λ t. settings_of t words) (with_option s name value)

-- the last event is not before the first, where both are named
abbrev pub in_order : Option ℕ → Option ℕ → Bool
in_order (Some from) (Some to) = nat_le from to
in_order from to = true

-- no part of the events is asked for, and no width
abbrev pub is_whole : Settings → Bool
is_whole s = is_none s.from && is_none s.to && is_none s.width

-- a picture takes no package, trace events take no other option, and a page no events and no width
abbrev pub picture_form : Settings → Option Form
picture_form s = if is_some s.rules then None else Some (form.Drawn drawing.Picture)

abbrev pub events_form : Settings → Option Form
events_form s = if is_some s.rules || not (is_whole s) then None else Some (form.Drawn drawing.Events)

abbrev pub page_form : Settings → Option Form
page_form s = if not (is_whole s) then None else Some (form.Page (unwrap_or s.rules FastThreads))

abbrev pub form_word : Option FormWord → Settings → Option Form
form_word None s = picture_form s
form_word (Some Svg) s = picture_form s
form_word (Some Events) s = events_form s
form_word (Some Page) s = page_form s

abbrev pub form_by : Settings → Option Form
form_by s = form_word s.form s

abbrev pub request_in : Settings → Form → Option Request
request_in s f =
    if in_order s.from s.to then Some (record { form = f; from = s.from; to = s.to; width = unwrap_or s.width DEFAULT_WIDTH }) else None

abbrev pub request_by : Settings → Option Request
request_by s = option_and_then (request_in s) (form_by s)

-- the request of the words after the program's name
abbrev pub request_of : List (List ℕ) → Option Request
request_of words =
    option_and_then request_by (settings_of (record { form = None; rules = None; from = None; to = None; width = None }) words)

-- the part of the trace that a picture shows
abbrev pub part_of : Request → Part
part_of r = record { from = r.from; to = r.to; width = r.width }
