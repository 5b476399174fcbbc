-- The options of a search, as functions of the entries of a command line. An option that is not given has its default; a
-- value of another form than the option's is none.
use Rattle.std.specs.Prelude.{ℕ, Bool, false, List, [], codes, Option, Some, None, if◌then◌else◌}
use Rattle.clap.specs.Walk.{Row, first_of}
use Rattle.wp_plain.specs.declared.settings.Search.{Search}
use Rattle.wp_plain.specs.declared.settings.Search.TheVariants.{KBfws, F5}
use Rattle.wp_plain.specs.declared.settings.Settings.{Settings}
use Rattle.wp_watch.specs.declared.watch.WatchKind.{WatchKind}
use Rattle.wp_words.specs.declared.options.Options.{Options}
use Rattle.wp_words.specs.Kinds.{kinds_in}
use Rattle.wp_words.specs.Values.{is_word, number_in}

abbrev pub search_of : List ℕ → Option Search
search_of word = if is_word word (codes "kbfws") then Some KBfws else if is_word word (codes "f5") then Some F5 else None

abbrev pub search_or : Search → Option (List ℕ) → Option Search
search_or default None = Some default
search_or default (Some word) = search_of word

-- a number from `low` to `high`
abbrev pub number_or : ℕ → ℕ → ℕ → Option (List ℕ) → Option ℕ
number_or default low high None = Some default
number_or default low high (Some word) = number_in low high word

-- the same of a number that has to be there
abbrev pub number_of : ℕ → ℕ → Option (List ℕ) → Option ℕ
number_of low high None = None
number_of low high (Some word) = number_in low high word

abbrev pub kinds_or_none : Option (List ℕ) → Option (List WatchKind)
kinds_or_none None = Some []
kinds_or_none (Some text) = kinds_in text

-- a flag's entry is always there, with the value `true` or `false`
abbrev pub is_set : Option (List ℕ) → Bool
is_set None = false
is_set (Some value) = is_word value (codes "true")

abbrev pub settings_from : Option Search → Option ℕ → Option ℕ → Option ℕ → Option ℕ → Option ℕ → Option Settings
settings_from (Some search) (Some width) (Some budget) (Some words) (Some workers) (Some ahead) = Some (record {
  search = search;
  width = width;
  budget = budget;
  words = words;
  workers = workers;
  ahead = ahead;
})
settings_from search width budget words workers ahead = None

abbrev pub settings_in : List Row → Option Settings
settings_in entries =
    settings_from
    (search_or F5 (first_of (codes "search") entries))
    (number_or 2 1 2 (first_of (codes "width") entries))
    (number_or 1000000 1 100000000 (first_of (codes "budget") entries))
    (number_or 134217728 1 536870912 (first_of (codes "words") entries))
    (number_or 1 1 64 (first_of (codes "workers") entries))
    (number_or 0 0 1024 (first_of (codes "ahead") entries))

abbrev pub options_from : Option Settings → Option (List WatchKind) → Bool → Option Options
options_from (Some settings) (Some watch) plain = Some (record { settings = settings; watch = watch; plain = plain })
options_from settings watch plain = None

unfoldable pub options_in : List Row → Option Options
options_in entries =
    options_from (settings_in entries) (kinds_or_none (first_of (codes "watch") entries)) (is_set (first_of (codes "plain") entries))
