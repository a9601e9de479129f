-- The lines of a whole run, and of the answer to an input.
use Rattle.std.specs.Prelude.{List, ◌++◌, ◌⊎◌, ℕ, ℤ, pos}
use Rattle.std.proofs.Common.{inl, inr}
use Rattle.runs.specs.Traces.{Post, End, done, overload, emptied, Trace}
use Rattle.plan_cli.specs.Lines.{post_line, lines, why_lines, done_line, overload_lines, emptied_line, refused_line}

-- a post with its reason after it, and all posts
abbrev pub post_of : Post → List ℕ
post_of p = post_line (pos p.task) p.bound ++ why_lines p.reason

abbrev pub post_lines : List Post → List ℕ
post_lines = lines post_of

-- how a run ended
abbrev pub end_lines : End → List ℤ → List ℕ
end_lines done starts = done_line starts
end_lines (overload reason) starts = overload_lines reason
end_lines emptied starts = emptied_line

-- a whole run
unfoldable pub run_lines : Trace → List ℕ
run_lines t = post_lines t.posts ++ end_lines t.end t.starts

-- the answer to an input: the number that refused it, or a run
abbrev pub answer_lines : ℕ ⊎ Trace → List ℕ
answer_lines (inl number) = refused_line number
answer_lines (inr t) = run_lines t
