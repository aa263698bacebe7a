-- What the words behind the program's name ask for: `[--all] [--states] [--names FILE] NET LOG [LAST]`.
-- Assumes nothing.
use Rattle.std.specs.Prelude.{Bool, true, false, cond, List, [], ◌∷◌, ℕ, Option, Some, None, Result, Ok, Err}
use Rattle.phrases.specs.declared.arguments.Asked.{Asked}
use Rattle.phrases.specs.declared.arguments.Request.{Request}
use Rattle.phrases.specs.declared.arguments.Misuse.{Misuse}
use Rattle.phrases.specs.declared.arguments.Misuse.TheVariants as misuse
use Rattle.phrases.specs.declared.arguments.NamesFile.{NamesFile}
use Rattle.phrases.specs.declared.arguments.NamesFile.TheVariants as names_file
use Rattle.phrases.specs.Bytes.{starts_with, is_same}

-- `-`, `--all`, `--states` and `--names`, in ASCII
abbrev pub dash : List ℕ
dash = 45 ∷ []

abbrev pub all_word : List ℕ
all_word = 45 ∷ 45 ∷ 97 ∷ 108 ∷ 108 ∷ []

abbrev pub states_word : List ℕ
states_word = 45 ∷ 45 ∷ 115 ∷ 116 ∷ 97 ∷ 116 ∷ 101 ∷ 115 ∷ []

abbrev pub names_word : List ℕ
names_word = 45 ∷ 45 ∷ 110 ∷ 97 ∷ 109 ∷ 101 ∷ 115 ∷ []

-- the fields, in their order
abbrev pub asked : Bool → Bool → NamesFile → Option ℕ → Option ℕ → Option ℕ → Asked
asked all states names net log last = record { all = all; states = states; names = names; net = net; log = log; last = last }

-- before the first word
abbrev pub nothing : Asked
nothing = asked false false names_file.Unasked None None None

-- `--names`, and only once
abbrev pub names_take : NamesFile → Asked → Result Asked Misuse
names_take names_file.Unasked a = Ok (record a { names = names_file.Awaited })
names_take names_file.Awaited a = Err misuse.NamesTwice
names_take (names_file.Given i) a = Err misuse.NamesTwice

-- a word that begins with `-`: one of the three options
abbrev pub option_takes : Asked → List ℕ → Result Asked Misuse
option_takes a word =
    cond (is_same word all_word) (Ok (record a { all = true }))
    (cond (is_same word states_word) (Ok (record a { states = true }))
    (cond (is_same word names_word) (names_take a.names a)
    (Err misuse.NoSuchOption)))

-- another word, number i: the next of the net, the log and the last state
abbrev pub last_takes : Option ℕ → Asked → ℕ → Result Asked Misuse
last_takes None a i = Ok (record a { last = Some i })
last_takes (Some l) a i = Err misuse.TooManyFiles

abbrev pub log_takes : Option ℕ → Asked → ℕ → Result Asked Misuse
log_takes None a i = Ok (record a { log = Some i })
log_takes (Some l) a i = last_takes a.last a i

abbrev pub net_takes : Option ℕ → Asked → ℕ → Result Asked Misuse
net_takes None a i = Ok (record a { net = Some i })
net_takes (Some n) a i = log_takes a.log a i

abbrev pub file_takes : Asked → ℕ → Result Asked Misuse
file_takes a i = net_takes a.net a i

-- word i, behind `--names` and anywhere else
abbrev pub word_takes : NamesFile → Asked → ℕ → List ℕ → Result Asked Misuse
word_takes names_file.Awaited a i word = Ok (record a { names = names_file.Given i })
word_takes names_file.Unasked a i word = cond (starts_with word dash) (option_takes a word) (file_takes a i)
word_takes (names_file.Given n) a i word = cond (starts_with word dash) (option_takes a word) (file_takes a i)

abbrev pub takes : Asked → ℕ → List ℕ → Result Asked Misuse
takes a i word = word_takes a.names a i word

-- there is a net and a log, and `--names` has its file
abbrev pub files_complete : Option ℕ → Option ℕ → Option ℕ → Asked → Result Request Misuse
files_complete names (Some net) (Some log) a =
    Ok (record { all = a.all; states = a.states; names = names; net = net; log = log; last = a.last })
files_complete names (Some net) None a = Err misuse.FileMissing
files_complete names None log a = Err misuse.FileMissing

abbrev pub names_complete : NamesFile → Asked → Result Request Misuse
names_complete names_file.Unasked a = files_complete None a.net a.log a
names_complete names_file.Awaited a = Err misuse.FileMissing
names_complete (names_file.Given i) a = files_complete (Some i) a.net a.log a

abbrev pub completed : Asked → Result Request Misuse
completed a = names_complete a.names a
