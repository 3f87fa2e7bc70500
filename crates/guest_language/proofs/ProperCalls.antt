-- A line's call is unknown only where its number is outside the table of calls.
use Rattle.std.proofs.Common.{◌≡◌, ℕ, zero, suc, ◌≤◌, ◌&&◌, ◌||◌, ◌^◌, Bool, true, false, cond, List, [], ◌∷◌, length, Option, Some, None, Result, Ok, Err, refl, subst, arith, nat_le, nat_lt}
use Rattle.std.specs.Prelude.{codes}
use Rattle.std.specs.Str.{bytes_eq}
use Rattle.std.proofs.lemmas.Bool.{and_parts}
use Rattle.std.proofs.lemmas.Bool.Decides.{nat_tests}
use Rattle.std.proofs.lemmas.Grind.{common_steps}
use Rattle.std.proofs.lemmas.Option.{slice_get_past}
use Rattle.sp_base.specs.Call.{IsProper, counts, wanted_words}
use Rattle.sp_base.specs.declared.call.Call.{Call}
use Rattle.sp_base.specs.declared.call.Call.TheVariants as call
use Rattle.sp_base.specs.declared.limits.TheConstants.{POLL_ENTRIES}
use Rattle.guest_language.specs.declared.fault.ScriptKind.{ScriptKind}
use Rattle.guest_language.specs.declared.fault.ScriptKind.TheVariants as kind
use Rattle.guest_language.specs.declared.script.Section.{Section}
use Rattle.guest_language.specs.declared.script.What.{What}
use Rattle.guest_language.specs.declared.script.What.TheVariants.{Exec, Fork, Join, Run}
use Rattle.guest_language.specs.declared.slot.Made.{Made}
use Rattle.guest_language.specs.declared.slot.Slot.TheVariants.{Filled}
use Rattle.guest_language.specs.declared.slot.TheConstants.{BAD, FIRST, SECOND}
use Rattle.guest_language.specs.declared.verb.Verb.{Verb}
use Rattle.guest_language.specs.declared.verb.Verb.TheVariants as verb
use Rattle.guest_language.specs.Facts.{HasProperCall, IsProperWhat}
use Rattle.guest_language.specs.Made.{bare_line, bind_line, command_of, connect_line, fcntl_line, how_of, is_outside, lseek_line, made_of, maybe_address, number_line, numbers_from, on_one, on_two, one_number, open_line, out_words, path_line, plain, poll_line, pread_line, pread_made, pwrite_line, read_line, recvfrom_line, sendto_line, shutdown_line, sized_write, socket_words, stat_line, takes_argument, two_numbers, two_paths_line, whence_of, with_first, write_line}
use Rattle.guest_language.specs.Names.{place_of}
use Rattle.guest_language.specs.Sections.{line_of}
use Rattle.guest_language.specs.Verbs.{verb_of}
use Rattle.guest_language.specs.What.{aside_what, child_aside, fork_of, fork_what, in_background, is_forked, line_what, only_aside, only_line, run_aside, run_verb, run_what, verb_aside, verb_made_aside, verb_what, what_of}
use Rattle.script_words.specs.Addresses.{address_of}
use Rattle.script_words.specs.Events.{entries_of}
use Rattle.script_words.specs.Flags.{flags_of}
use Rattle.script_words.specs.Numbers.{number_of, signed_of}
use Rattle.script_words.specs.Steps.{◌>>=◌}
use Rattle.script_words.specs.Texts.{text_of}

-- the call, where there is one, is proper
abbrev MadeProper : Option Made → Type 0
MadeProper None = Unit {0}
MadeProper (Some made) = IsProper made.call

-- a step after one that may give nothing
after : {A : Type 0} (found : Option A) (step : A → Option Made) → ((a : A) → MadeProper (step a)) → MadeProper (found >>= step)
after None step h = tt
after (Some a) step h = h a

-- what is there only where a test passes
tested : (b : Bool) (made : Option Made) → MadeProper made → MadeProper (cond b made None)
tested true made h = h
tested false made h = tt

bare_proper : (c : Call) → IsProper c → (words : List (List ℕ)) → MadeProper (bare_line c words)
bare_proper c h [] = h
bare_proper c h (word ∷ words) = tt

path_proper : (c : Call) → IsProper c → (words : List (List ℕ)) → MadeProper (path_line c words)
path_proper c h [] = tt
path_proper c h (path ∷ []) = after (text_of path) _ (λ text. h)
path_proper c h (path ∷ other ∷ words) = tt

two_paths_proper : (c : Call) → IsProper c → (words : List (List ℕ)) → MadeProper (two_paths_line c words)
two_paths_proper c h [] = tt
two_paths_proper c h (path ∷ []) = tt
two_paths_proper c h (path ∷ other ∷ []) = after (text_of path) _ (λ text. after (text_of other) _ (λ next. h))
two_paths_proper c h (path ∷ other ∷ word ∷ words) = tt

stat_proper : (words : List (List ℕ)) → MadeProper (stat_line words)
stat_proper [] = tt
stat_proper (path ∷ []) = after (text_of path) _ (λ text. tt)
stat_proper (path ∷ word ∷ words) = tt

open_proper : (words : List (List ℕ)) → MadeProper (open_line words)
open_proper [] = tt
open_proper (path ∷ []) = tt
open_proper (path ∷ flags ∷ []) = after (text_of path) _ (λ text. after (flags_of flags) _ (λ bits. tt))
open_proper (path ∷ flags ∷ word ∷ words) = tt

read_proper : (words : List (List ℕ)) → MadeProper (read_line words)
read_proper [] = tt
read_proper (fd ∷ words) = after (number_of fd) _ (λ n. after (out_words words) _ (λ out. tt))

recvfrom_proper : (words : List (List ℕ)) → MadeProper (recvfrom_line words)
recvfrom_proper [] = tt
recvfrom_proper (fd ∷ words) = after (number_of fd) _ (λ n. after (out_words words) _ (λ out. tt))

pread_made_proper : (fd : List ℕ) (words : List (List ℕ)) (offset : List ℕ) → MadeProper (pread_made fd words offset)
pread_made_proper fd words offset = after (number_of fd) _ (λ n. after (out_words words) _ (λ out. after (signed_of offset) _ (λ o. tt)))

pread_proper : (words : List (List ℕ)) → MadeProper (pread_line words)
pread_proper [] = tt
pread_proper (fd ∷ []) = tt
pread_proper (fd ∷ len ∷ []) = tt
pread_proper (fd ∷ len ∷ offset ∷ []) = pread_made_proper fd (len ∷ []) offset
pread_proper (fd ∷ word ∷ len ∷ offset ∷ []) = pread_made_proper fd (word ∷ len ∷ []) offset
pread_proper (fd ∷ word ∷ len ∷ offset ∷ more ∷ words) = tt

sized_proper : (n : ℕ) (word : List ℕ) (len : ℕ) → MadeProper (sized_write n word len)
unfolding sized_write
sized_proper n word len = elim (bytes_eq word (codes "fill")) as (λ b. MadeProper (cond b (cond (nat_le len 1048576) filled None) (cond (bytes_eq word (codes "bad")) badly None))) [
  | true ↦ tested (nat_le len 1048576) filled tt
  | false ↦ tested (bytes_eq word (codes "bad")) badly tt
]
  where
    filled : Option Made
    filled = Some (with_first (call.Write n FIRST len) (Filled len))

    badly : Option Made
    badly = Some (plain (call.Write n BAD len))

write_proper : (words : List (List ℕ)) → MadeProper (write_line words)
write_proper [] = tt
write_proper (fd ∷ []) = tt
write_proper (fd ∷ text ∷ []) = after (number_of fd) _ (λ n. after (text_of text) _ (λ t. tt))
write_proper (fd ∷ word ∷ len ∷ []) = after (number_of fd) _ (λ n. after (number_of len) _ (λ l. sized_proper n word l))
write_proper (fd ∷ word ∷ len ∷ more ∷ words) = tt

pwrite_proper : (words : List (List ℕ)) → MadeProper (pwrite_line words)
pwrite_proper [] = tt
pwrite_proper (fd ∷ []) = tt
pwrite_proper (fd ∷ text ∷ []) = tt
pwrite_proper (fd ∷ text ∷ offset ∷ []) = after (number_of fd) _ (λ n. after (text_of text) _ (λ t. after (signed_of offset) _ (λ o. tt)))
pwrite_proper (fd ∷ text ∷ offset ∷ word ∷ words) = tt

sendto_proper : (words : List (List ℕ)) → MadeProper (sendto_line words)
sendto_proper [] = tt
sendto_proper (fd ∷ []) = tt
sendto_proper (fd ∷ text ∷ words) = after (number_of fd) _ (λ n. after (text_of text) _ (λ t. after (maybe_address words) _ (λ a. tt)))

bind_proper : (words : List (List ℕ)) → MadeProper (bind_line words)
bind_proper [] = tt
bind_proper (fd ∷ words) = after (number_of fd) _ (λ n. after (address_of words) _ (λ a. tt))

connect_proper : (words : List (List ℕ)) → MadeProper (connect_line words)
connect_proper [] = tt
connect_proper (fd ∷ words) = after (number_of fd) _ (λ n. after (address_of words) _ (λ a. tt))

lseek_proper : (words : List (List ℕ)) → MadeProper (lseek_line words)
lseek_proper [] = tt
lseek_proper (fd ∷ []) = tt
lseek_proper (fd ∷ offset ∷ []) = tt
lseek_proper (fd ∷ offset ∷ whence ∷ []) = after (number_of fd) _ (λ n. after (signed_of offset) _ (λ o. after (whence_of whence) _ (λ w. tt)))
lseek_proper (fd ∷ offset ∷ whence ∷ word ∷ words) = tt

fcntl_proper : (words : List (List ℕ)) → MadeProper (fcntl_line words)
fcntl_proper [] = tt
fcntl_proper (fd ∷ []) = tt
fcntl_proper (fd ∷ command ∷ []) = tt
fcntl_proper (fd ∷ command ∷ argument ∷ []) = after (number_of fd) _ (λ n. after (command_of command) _ (λ c. after (number_of argument) _ (λ a. tested (takes_argument c a) _ tt)))
fcntl_proper (fd ∷ command ∷ argument ∷ word ∷ words) = tt

shutdown_proper : (words : List (List ℕ)) → MadeProper (shutdown_line words)
shutdown_proper [] = tt
shutdown_proper (fd ∷ []) = tt
shutdown_proper (fd ∷ how ∷ []) = after (number_of fd) _ (λ n. after (how_of how) _ (λ h. tt))
shutdown_proper (fd ∷ how ∷ word ∷ words) = tt

poll_proper : (words : List (List ℕ)) → MadeProper (poll_line words)
poll_proper [] = tt
poll_proper (timeout ∷ words) = tested (nat_le (length words) POLL_ENTRIES) _ (after (signed_of timeout) _ (λ t. after (entries_of words) _ (λ bytes. tt)))

outside_none : (num : ℕ) → is_outside num ≡ true → wanted_words num ≡ None
unfolding is_outside
outside_none zero h = refl
outside_none (suc n) h = slice_get_past counts n past
  where
    past : length counts ≤ n
    past = grind (arith, nat_tests, common_steps)

numbered_proper : (n : ℕ) (words : List (List ℕ)) → MadeProper (cond (nat_lt n (2 ^ 32) && is_outside n) (numbers_from [] words >>= (λ ws. Some (plain (call.Unknown n ws)))) None)
numbered_proper n words = elim (nat_lt n (2 ^ 32) && is_outside n) as (λ b. (nat_lt n (2 ^ 32) && is_outside n) ≡ b → MadeProper (cond b (numbers_from [] words >>= (λ ws. Some (plain (call.Unknown n ws)))) None)) [
  | true ↦ λ e. after (numbers_from [] words) _ (λ ws. outside_none n (and_parts (nat_lt n (2 ^ 32)) (is_outside n) e).1)
  | false ↦ λ e. tt
] refl

number_proper : (words : List (List ℕ)) → MadeProper (number_line words)
number_proper [] = tt
number_proper (num ∷ words) = tested (nat_le (length words) 8) _ (after (number_of num) _ (λ n. numbered_proper n words))

made_proper : (v : Verb) (words : List (List ℕ)) → MadeProper (made_of v words)
made_proper verb.Getpid words = bare_proper call.Getpid tt words
made_proper verb.Pipe words = bare_proper call.Pipe tt words
made_proper verb.Close words = after (one_number words) (on_one verb.Close) (λ n. tt)
made_proper verb.Dup words = after (one_number words) (on_one verb.Dup) (λ n. tt)
made_proper verb.Accept words = after (one_number words) (on_one verb.Accept) (λ n. tt)
made_proper verb.Fstat words = after (one_number words) (on_one verb.Fstat) (λ n. tt)
made_proper verb.Getsockname words = after (one_number words) (on_one verb.Getsockname) (λ n. tt)
made_proper verb.Getpeername words = after (one_number words) (on_one verb.Getpeername) (λ n. tt)
made_proper verb.Ftruncate words = after (two_numbers words) (on_two verb.Ftruncate) (λ p. tt)
made_proper verb.Dup2 words = after (two_numbers words) (on_two verb.Dup2) (λ p. tt)
made_proper verb.Listen words = after (two_numbers words) (on_two verb.Listen) (λ p. tt)
made_proper verb.Socket words = after (socket_words words) (on_two verb.Socket) (λ p. tt)
made_proper verb.Socketpair words = after (socket_words words) (on_two verb.Socketpair) (λ p. tt)
made_proper verb.Unlink words = path_proper (call.Unlink FIRST) tt words
made_proper verb.Mkdir words = path_proper (call.Mkdir FIRST) tt words
made_proper verb.Rmdir words = path_proper (call.Rmdir FIRST) tt words
made_proper verb.Chdir words = path_proper (call.Chdir FIRST) tt words
made_proper verb.Link words = two_paths_proper (call.Link FIRST SECOND) tt words
made_proper verb.Rename words = two_paths_proper (call.Rename FIRST SECOND) tt words
made_proper verb.Stat words = stat_proper words
made_proper verb.Open words = open_proper words
made_proper verb.Read words = read_proper words
made_proper verb.Pread words = pread_proper words
made_proper verb.Recvfrom words = recvfrom_proper words
made_proper verb.Write words = write_proper words
made_proper verb.Pwrite words = pwrite_proper words
made_proper verb.Sendto words = sendto_proper words
made_proper verb.Bind words = bind_proper words
made_proper verb.Connect words = connect_proper words
made_proper verb.Lseek words = lseek_proper words
made_proper verb.Fcntl words = fcntl_proper words
made_proper verb.Shutdown words = shutdown_proper words
made_proper verb.Poll words = poll_proper words
made_proper verb.Number words = number_proper words

-- what a line asks for, where it asks well, is proper
abbrev AskedProper : Result What ScriptKind → Type 0
AskedProper (Err fault) = Unit {0}
AskedProper (Ok what) = IsProperWhat what

-- one of two results
either : (b : Bool) (first second : Result What ScriptKind) → AskedProper first → AskedProper second → AskedProper (cond b first second)
either true first second h g = h
either false first second h g = g

run_proper : (made : Option Made) → MadeProper made → AskedProper (run_what made)
run_proper None h = tt
run_proper (Some made) h = h

verb_proper : (found : Option Verb) (words : List (List ℕ)) → AskedProper (run_verb found words)
verb_proper None words = tt
verb_proper (Some v) words = run_proper (made_of v words) (made_proper v words)

only_proper : (what : What) → IsProperWhat what → (words : List (List ℕ)) → AskedProper (only_line what words)
only_proper what h [] = h
only_proper what h (word ∷ words) = tt

forked_proper : (ss : List Section) (found : Option ℕ) → AskedProper (fork_of ss found)
forked_proper ss None = tt
forked_proper ss (Some child) = either (is_forked child ss) (Err kind.ForkedTwice) (Ok (Fork child)) tt tt

fork_proper : (names : List (List ℕ)) (ss : List Section) (words : List (List ℕ)) → AskedProper (fork_what names ss words)
fork_proper names ss [] = tt
fork_proper names ss (name ∷ []) = either _ (Err kind.BadName) (fork_of ss (place_of names name)) tt (forked_proper ss (place_of names name))
fork_proper names ss (name ∷ word ∷ words) = tt

line_proper : (names : List (List ℕ)) (ss : List Section) (word : List ℕ) (words : List (List ℕ)) → AskedProper (line_what names ss (word ∷ words))
line_proper names ss word words =
    either (bytes_eq word (codes "fork")) (fork_what names ss words) _ (fork_proper names ss words)
    (either (bytes_eq word (codes "exec")) (only_line Exec words) _ (only_proper Exec tt words)
    (either (bytes_eq word (codes "join")) (only_line Join words) (verb_what word words) (only_proper Join tt words) (verb_proper (verb_of word) words)))

run_aside_proper : (v : Verb) (made : Option Made) → MadeProper made → AskedProper (run_aside v made)
run_aside_proper v None h = tt
run_aside_proper v (Some made) h = either (in_background v) (Ok (Run made.call)) (Err kind.NotInBackground) h tt

verb_aside_proper : (found : Option Verb) (words : List (List ℕ)) → AskedProper (verb_made_aside found words)
verb_aside_proper None words = tt
verb_aside_proper (Some v) words = run_aside_proper v (made_of v words) (made_proper v words)

aside_proper : (words : List (List ℕ)) → AskedProper (aside_what words)
aside_proper [] = tt
aside_proper (word ∷ words) =
    either (bytes_eq word (codes "guest") || bytes_eq word (codes "fork")) (Err (child_aside words)) _ tt
    (either (bytes_eq word (codes "exec") || bytes_eq word (codes "join")) (Err (only_aside words)) (verb_aside word words) tt (verb_aside_proper (verb_of word) words))

what_proper : (names : List (List ℕ)) (ss : List Section) (word : List ℕ) (words : List (List ℕ)) → AskedProper (what_of names ss (word ∷ words))
what_proper names ss word words = either (bytes_eq word (codes "&")) (aside_what words) (line_what names ss (word ∷ words)) (aside_proper words) (line_proper names ss word words)

pub proper_line : (names : List (List ℕ)) (ss : List Section) (at : ℕ) (word : List ℕ) (words : List (List ℕ)) (what : What) → what_of names ss (word ∷ words) ≡ Ok what → HasProperCall (line_of at (word ∷ words) what)
proper_line names ss at word words what e = subst AskedProper e (what_proper names ss word words)
