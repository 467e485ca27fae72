-- The text of a refusal.
use Rattle.std.specs.Prelude.{◌++◌, codes}
use Rattle.toga_words.specs.declared.refusal.Setting.{Setting}
use Rattle.toga_words.specs.declared.refusal.Setting.TheVariants as setting
use Rattle.toga_words.specs.Asked.{Bytes, Objection, value, same_input, backward}

-- the name of an option, with that of its value
abbrev pub name_of : Setting → Bytes
name_of setting.Schedule = codes "--schedule <ORDER>"
name_of setting.Package = codes "--package <PACKAGE>"
name_of setting.Budget = codes "--budget <EVENTS>"
name_of setting.States = codes "--states <STATES>"
name_of setting.Give = codes "--give <END>"
name_of setting.From = codes "--from <EVENT>"
name_of setting.To = codes "--to <EVENT>"
name_of setting.Width = codes "--width <PIXELS>"

abbrev pub range_text : Bytes → Bytes → Bytes
range_text word range = codes ": " ++ word ++ codes " is not in " ++ range

-- what an option takes
abbrev pub taken_text : Setting → Bytes → Bytes
taken_text setting.Schedule word = codes "\n  [possible values: given, rr, seed:N, hold:P:N]"
taken_text setting.Package word = codes "\n  [possible values: fast, prio]"
taken_text setting.Give word = codes "\n  [possible values: alldone, stuck, endless]"
taken_text setting.Budget word = range_text word (codes "1..=1000000")
taken_text setting.States word = range_text word (codes "1..=10000000")
taken_text setting.From word = range_text word (codes "0..=18446744073709551615")
taken_text setting.To word = range_text word (codes "0..=18446744073709551615")
taken_text setting.Width word = range_text word (codes "200..=1000000")

abbrev pub quoted : Bytes → Bytes
quoted word = codes "'" ++ word ++ codes "'"

abbrev pub named_text : Setting → Bytes → Bytes
named_text which word = codes "invalid value " ++ quoted word ++ codes " for " ++ quoted (name_of which)

abbrev pub value_text : Setting → Bytes → Bytes
value_text which word = named_text which word ++ taken_text which word

abbrev pub sentence_of : Objection → Bytes
sentence_of (value which word) = value_text which word
sentence_of same_input = codes "standard input is named twice"
sentence_of backward = codes "the first event comes after the last one: '--from <EVENT>' is above '--to <EVENT>'"

unfoldable pub refusal_text : Objection → Bytes
refusal_text e = codes "error: " ++ sentence_of e ++ codes "\n\nFor more information, try '--help'.\n"
