use Rattle.std.proofs.Common.{sym, subst, Option, Some}
use Rattle.std.specs.Option.{option_map}
use Rattle.tk_handle.specs.declared.dot.Dot.{Dot}
use Rattle.tk_dots.specs.Pages.{IsNext, FirstOfPages}
use Rattle.tk_dots.proofs.NextLaws.{next_here, next_or_none, first_or_none}
use Rattle.tk_dots.proofs.dots.DotMap.next_after.Goals as goal

pub returns-in-Some-rest_of_page : goal.returns-in-Some-rest_of_page
returns-in-Some-rest_of_page g c =
    subst (λ (o : Option Dot).
    IsNext c.args.self.now o
    (Some (c.in-Some-rest_of_page.next.0, c.in-Some-rest_of_page.next.1.now))) (sym c.in-Some.is)
    (next_here c.self.inside.pages c.args.self.now c.self.view_is c.self.invariant.pages
    c.in-Some.dot (c.in-Some-rest_of_page.next.0, c.in-Some-rest_of_page.next.1.now)
    c.in-Some-rest_of_page.ensures)

pub returns-in-None-rest_of_page : goal.returns-in-None-rest_of_page
returns-in-None-rest_of_page g c =
    subst (λ (o : Option Dot).
    IsNext c.args.self.now o (option_map (λ p. (p.0, p.1.now)) c.first_of_pages.result))
    (sym c.in-Some.is)
    (next_or_none c.self.inside.pages c.args.self.now c.self.view_is c.self.invariant.pages
    c.in-Some.dot (option_map (λ p. (p.0, p.1.now)) c.first_of_pages.result)
    c.in-None-rest_of_page.ensures
    (subst (λ (k : Dot).
    FirstOfPages c.self.inside.pages (Some k)
    (option_map (λ p. (p.0, p.1.now)) c.first_of_pages.result)) c.page_of.ensures
    c.first_of_pages.ensures))

pub returns-in-None : goal.returns-in-None
returns-in-None g c =
    subst (λ (o : Option Dot).
    IsNext c.args.self.now o (option_map (λ p. (p.0, p.1.now)) c.first_of_pages-in-None.result))
    (sym c.in-None.is)
    (first_or_none c.self.inside.pages c.args.self.now c.self.view_is c.self.invariant.pages
    (option_map (λ p. (p.0, p.1.now)) c.first_of_pages-in-None.result)
    c.first_of_pages-in-None.ensures)
