-- The one public function that only decides has a promise that determines its answer and every byte lent to it. What is cited is the
-- promise itself, as a caller learns it. That of `read` does so where the reader's bytes are known and no read fails. (Of `serve`, `serve_all` and
-- `main`, which read and write, no promise can say so.)
-- Assumes nothing.
use mathlib.Core.Path.{◌≡◌, sym, ◌∙◌}
use mathlib.Core.List.{List}
use Prim.Native.Nat.{ℕ}
use contract.Lifetimes.{Lfts}
use denote.RattleType.{RattleType}
use denote.Param.Laws.{Laws}
use denote.Triple.Clauses.{AtExit}
use borrow.Fn.Kinds.{Dens, res_t, ended_of}
use mir.Syntax.{Dict}
use Rattle.std.proofs.Common.{Ok, Err, Some, subst, take}
use Rattle.std.specs.Io.KnownBytes.{Consumes}
use Rattle.std.specs.declared.io.traits.Read.{Ghosts}
use Rattle.model.proofs.Determined.{Determined, LeavesOne}
use Rattle.text.proofs.Determined.{line-once}
use Rattle.menuask.specs.declared.request.Request.{Request}
use Rattle.menuask.specs.declared.request.RequestError.TheVariants.{Bad}
use Rattle.menuask.specs.Requests.{bytes_of, NoRequest}
use Rattle.menuask.proofs.Once.{Reads, SameReads, once, not-bad}
use Rattle.menuask.proofs.request.read.Reads as read
use Rattle.menuask.proofs.request.read.Kinds as read-kinds
use Rattle.menuask.proofs.answer.answer.Reads as answer
use Rattle.menuask.proofs.answer.answer.Kinds as answer-kinds

pub answer-determined : Determined 4 answer-kinds.ps answer-kinds.r answer.Learnt
answer-determined κs args x y s s' p q = (line-once _ _ _ _ _ s.0.now s'.0.now x y p.1.0 q.1.0).1

pub answer-leaves : LeavesOne 4 answer-kinds.ps answer-kinds.r answer.Learnt (λ κs s. s.0.now)
answer-leaves κs args x y s s' p q = (line-once _ _ _ _ _ s.0.now s'.0.now x y p.1.0 q.1.0).0

pub answer-leaves-state : LeavesOne 4 answer-kinds.ps answer-kinds.r answer.Learnt (λ κs s. s.1.1.1.0.now)
answer-leaves-state κs args x y s s' p q = p.1.1.0 ∙ sym q.1.1.0

pub answer-leaves-third : LeavesOne 4 answer-kinds.ps answer-kinds.r answer.Learnt (λ κs s. s.1.1.1.1.0.now)
answer-leaves-third κs args x y s s' p q = p.1.1.1 ∙ sym q.1.1.1

module _ (T : RattleType) (L : Laws T) (G : Ghosts T.Denot) (D : Dict) (κs : Lfts 4) (args : Dens κs (read-kinds.ps T L)) (xs : List ℕ)
    (known : G.remaining args.0.now ≡ Some xs) where
  reads : (s : AtExit (ended_of 4 (read-kinds.ps T L) (read-kinds.r T L)) κs) (q : Request) → read.Learnt T L G D κs args (Ok q) s
      → Reads xs (G.remaining s.0.now) args.1.0 q s.1.1.0.now.net.now s.1.1.0.now.state.now s.1.1.0.now.third.now
  reads s q p = record {
    call = p.0;
    bytes = subst (λ v. Consumes v (G.remaining s.0.now)
        (bytes_of q.call (take q.net s.1.1.0.now.net.now) (take q.state s.1.1.0.now.state.now) (take q.third s.1.1.0.now.third.now))) known p.1.0;
    in_bounds = p.1.1.0;
    in_range = p.1.1.1.0;
    no_other = p.1.1.1.1.0;
  }

  -- two requests that the promise permits for the same bytes are one, with the same slices, and leave the same bytes
  pub read-determined : (x y : (res_t (read-kinds.r T L) κs).Denot) (s s' : AtExit (ended_of 4 (read-kinds.ps T L) (read-kinds.r T L)) κs) (q q' : Request)
      → x ≡ Ok q → y ≡ Ok q' → read.Learnt T L G D κs args x s → read.Learnt T L G D κs args y s'
      → SameReads (G.remaining s.0.now) (G.remaining s'.0.now) q q' s.1.1.0.now.net.now s.1.1.0.now.state.now s.1.1.0.now.third.now
      s'.1.1.0.now.net.now s'.1.1.0.now.state.now s'.1.1.0.now.third.now
  read-determined x y s s' q q' e e' p p' =
      once xs _ _ _ q q' _ _ _ _ _ _ (reads s q (subst (λ v. read.Learnt T L G D κs args v s) e p)) (reads s' q' (subst (λ v. read.Learnt T L G D κs args v s') e' p'))

  -- and where it permits one, it does not permit that the request is bad
  pub read-not-bad : (x y : (res_t (read-kinds.r T L) κs).Denot) (s s' : AtExit (ended_of 4 (read-kinds.ps T L) (read-kinds.r T L)) κs) (q : Request)
      → x ≡ Ok q → y ≡ Err Bad → read.Learnt T L G D κs args x s → read.Learnt T L G D κs args y s' → ⊥
  read-not-bad x y s s' q e e' p p' =
      let one = subst (λ v. read.Learnt T L G D κs args v s) e p in
      let bad = subst (λ v. read.Learnt T L G D κs args v s') e' p' in
      not-bad xs _ args.1.0 q _ _ _ args.1.1.0.now.net.now args.1.1.0.now.state.now args.1.1.0.now.third.now
      (sym one.1.1.1.1.1.1.0.0) (sym one.1.1.1.1.1.1.0.1) (sym one.1.1.1.1.1.1.0.2) (reads s q one)
      (subst (λ v. NoRequest v args.1.0 args.1.1.0.now.net.now args.1.1.0.now.state.now args.1.1.0.now.third.now) known bad.1.1.1.1.1.0)
