-- The version of the library (this project's own).
use Rattle.std.specs.Prelude.{ℕ, ◌+◌, ◌*◌}

-- a version as one number; minor and patch are below 1,000
abbrev pub version_number : (major minor patch : ℕ) → ℕ
version_number major minor patch = major * 1000000 + minor * 1000 + patch
