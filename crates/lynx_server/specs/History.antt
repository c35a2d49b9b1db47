-- Histories in which each entry is lawful after those before it.
use Rattle.std.specs.Prelude.{ℕ, ◌≡◌, [], ◌∷◌, ◌++◌, take, slice_get, Option, Some, None}
use Rattle.lynx_set.specs.Set.{Set}
use Rattle.lynx_entry.specs.declared.entry.Entry.{Entry}
use Rattle.lynx_entry.specs.Entry.{History}
use Rattle.lynx_rules.specs.Lawful.{IsLawful}

-- behind these entries, each is lawful after those before it
abbrev pub IsLawfulAfter : Set → ℕ → History → History → Type 0
IsLawfulAfter set server before [] = Unit {0}
IsLawfulAfter set server before (entry ∷ history) =
    IsLawful set server before entry × IsLawfulAfter set server (before ++ entry ∷ []) history

-- Each entry is lawful after those before it.
abbrev pub IsLawfulHistory : Set → ℕ → History → Type 0
IsLawfulHistory set server history = IsLawfulAfter set server [] history

-- the entry at the place isn't lawful after those before it, which are
pub record IsFirstUnlawful (set : Set) (server : ℕ) (entries : History) (place : ℕ) : Type 0 where
  pub entry : Entry
  pub there : slice_get entries place ≡ Some entry
  pub before : IsLawfulHistory set server (take place entries)
  pub unlawful : IsLawful set server (take place entries) entry → ⊥

-- Each entry is lawful after those before it, or this is the first place whose entry isn't.
abbrev pub IsJudged : Set → ℕ → History → Option ℕ → Type 0
IsJudged set server entries None = IsLawfulHistory set server entries
IsJudged set server entries (Some place) = IsFirstUnlawful set server entries place

-- the history with what was added, if anything was
abbrev pub grown : History → Option Entry → History
grown history (Some entry) = history ++ entry ∷ []
grown history None = history
