-- What the words of the command line ask for.
use Rattle.std.specs.Prelude.{ℕ, Bool, false, true, List, [], ◌∷◌, codes, Option, Some, None, if◌then◌else◌}
use Rattle.std.specs.Str.{bytes_eq}
use Rattle.clap.specs.Faults.{fault_of}
use Rattle.clap.specs.Simple.{App, matches_of, new_app, new_rule, on_top, with_rule}
use Rattle.clap.specs.Walk.{Row, Rule, first_of, is_empty}
use Rattle.clap.specs.declared.builder.action.ArgAction.TheVariants.{SetTrue}
use Rattle.rump_sp.specs.declared.words.Asked.{Asked}
use Rattle.rump_sp.specs.declared.words.Asked.TheVariants as asked
use Rattle.rump_sp.specs.declared.words.CommandName.{CommandName}
use Rattle.rump_sp.specs.declared.words.CommandName.TheVariants.{Stdio, Bench}

-- a command without options or a help flag, to which only the words behind its name are given
abbrev pub plain_app : List ℕ → App
plain_app name = on_top (λ shape. record shape { no_binary_name = true; disable_help_flag = true }) (new_app name)

-- the flag -r, which has to be given
abbrev pub raw_flag : Rule
raw_flag = record (new_rule (codes "raw")) { short = Some 114; action = Some SetTrue; required = true }

-- the flag -j
abbrev pub journals_flag : Rule
journals_flag = record (new_rule (codes "journals")) { short = Some 106; action = Some SetTrue }

-- the command with its options
abbrev pub app_for : CommandName → App
app_for Stdio = plain_app (codes "stdio")
app_for Bench = with_rule (with_rule (plain_app (codes "bench")) raw_flag) journals_flag

-- clap finds no fault in the words as options of the command
unfoldable pub takes_options : App → List (List ℕ) → Bool
takes_options app options = is_empty (fault_of app options)

-- what clap finds in the words as options of the command
unfoldable pub rows_in : App → List (List ℕ) → List Row
rows_in app options = matches_of app options

-- what a command word names
abbrev pub named : List ℕ → Option CommandName
named word =
    if bytes_eq word (codes "stdio") then Some Stdio
    else if bytes_eq word (codes "bench") then Some Bench
    else None

-- a flag's value is yes
abbrev pub is_yes : Option (List ℕ) → Bool
is_yes None = false
is_yes (Some value) = bytes_eq value (codes "true")

-- what a command asks for with options of which clap finds these matches
abbrev pub asked_by : CommandName → List Row → Asked
asked_by Stdio rows = asked.Stdio
asked_by Bench rows = asked.Bench (is_yes (first_of (codes "journals") rows))

-- what is asked for, if the options are right
abbrev pub with_options : List (List ℕ) → Option CommandName → Option Asked
with_options options None = None
with_options options (Some name) =
    if takes_options (app_for name) options then Some (asked_by name (rows_in (app_for name) options)) else None

-- what the words ask for, if they are right
abbrev pub asked_of : List (List ℕ) → Option Asked
asked_of [] = None
asked_of (word ∷ options) = with_options options (named word)
