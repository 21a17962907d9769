mod Briefs
mod ShortForms
