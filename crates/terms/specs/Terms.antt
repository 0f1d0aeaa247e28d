-- Leader terms: from view 1 on, so many views share one leader. View 0 comes before the first term.
use Rattle.std.specs.Prelude.{ℕ, ◌+◌, ◌-◌, ◌*◌, ◌/◌, cond, ◌==◌}

-- the number of the term with this view: the view divided by the term length, rounded up
abbrev pub term_index : ℕ → ℕ → ℕ
term_index length view = (view + (length - 1)) / length

-- which round of a script is played at this view: the first term plays the first one, and so does view 0
abbrev pub script_place : ℕ → ℕ → ℕ
script_place length view = term_index length view - 1

-- the first view of the term with this view; view 0 is alone
abbrev pub term_start : ℕ → ℕ → ℕ
term_start length view = cond (view == 0) 0 (length * script_place length view + 1)
